use Rattle.std.proofs.Common.{◌≡◌, [], subst, sym}
use Rattle.page_versions.specs.Kept.{Kept, chain_of}
use Rattle.page_versions.proofs.Paging.{chain_in-empty}
use Rattle.page_tests.proofs.page_versions_calls.start.Goals as goal

pub start-requires-clause-no_versions : goal.start-requires-clause-no_versions
start-requires-clause-no_versions c = subst (λ (k : Kept). chain_of k c.id.result ≡ []) (sym c.requires) (chain_in-empty c.id.result)
