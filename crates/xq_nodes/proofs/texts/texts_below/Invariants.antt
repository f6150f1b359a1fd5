use Rattle.std.proofs.Common.{◌≡◌, ◌++◌, map, drop, string_bytes}
use Rattle.std.specs.List.{flat_map}
use Rattle.xml_model.specs.Nav.{stored_at, told_at}
use Rattle.xq_nodes.specs.Walks.{text_of}
use Rattle.xq_nodes.proofs.texts.texts_below.Given as goal

abbrev pub invariant-loop-m : goal.invariant-loop-m
invariant-loop-m g l = g.N.Nav.honest l.nav →
    string_bytes l.text ++ flat_map (λ n. text_of (told_at (stored_at (g.N.Nav.forest l.nav) n))) (map (g.N.Nav.place l.nav) (drop l.m-index l.m-items))
    ≡ flat_map (λ n. text_of (told_at (stored_at (g.N.Nav.forest l.nav) n))) (map (g.N.Nav.place l.nav) l.m-items)
