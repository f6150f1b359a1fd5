use Rattle.std.proofs.Common.{◌≡◌, ◌∷◌, [], ◌++◌, Some, IsUtf8, rules, ap, subst, sym, ◌∙◌}
use Rattle.std.proofs.lemmas.Str.{IsUtf8-append}
use Rattle.script_text.specs.JournalSteps.{behind_name, unquoted}
use Rattle.script_text.proofs.OneLine.{quote_utf8}
use Rattle.script_text.proofs.Quoted.{name_goes_on, name_ends, name_is_open, no_quote_first}
use Rattle.script_text.proofs.journals.parts.read_name.Goals as goal

pub loop-before-preserved : goal.loop-before-preserved
loop-before-preserved c =
    let before : IsUtf8 c.in-Some.before.now = search rules in
    let first : c.push_str.new.self ≡ c.loop-before.name ++ c.in-Some.before.now = c.in_ok-push_str.ensures.ok in
    let name : c.push_str-in-Some-behind.new.self ≡ (c.loop-before.name ++ c.in-Some.before.now) ++ 39 ∷ [] =
    c.in_ok-push_str-in-Some-behind.ensures.ok ∙ ap (λ n. n ++ 39 ∷ []) first in
    let rest : c.loop-before.rest.now ≡ c.in-Some.before.now ++ 39 ∷ (39 ∷ c.in-Some-behind.next.now) =
    c.in-Some.ensures.whole ∙ ap (λ r. c.in-Some.before.now ++ 39 ∷ r) c.in-Some-behind.ensures in
    let both : IsUtf8 ((c.loop-before.name ++ c.in-Some.before.now) ++ 39 ∷ []) =
    IsUtf8-append (c.loop-before.name ++ c.in-Some.before.now) (39 ∷ [])
    (IsUtf8-append c.loop-before.name c.in-Some.before.now c.loop-before.invariant.1 before) quote_utf8 in
    let on = name_goes_on c.loop-before.name c.loop-before.rest.now c.in-Some.before.now c.in-Some-behind.next.now c.args.text.now rest c.in-Some.ensures.first
    c.loop-before.invariant.2 in
    (search rules, subst IsUtf8 (sym name) both, ap (λ n. behind_name n (unquoted c.in-Some-behind.next.now)) name ∙ on)

pub returns-in-None : goal.returns-in-None
returns-in-None c =
    let before : IsUtf8 c.in-Some.before.now = search rules in
    let name : c.push_str.new.self ≡ c.loop-before.name ++ c.in-Some.before.now = c.in_ok-push_str.ensures.ok in
    let both : IsUtf8 (c.loop-before.name ++ c.in-Some.before.now) = IsUtf8-append c.loop-before.name c.in-Some.before.now c.loop-before.invariant.1 before in
    let ends = name_ends c.loop-before.name c.loop-before.rest.now c.in-Some.before.now c.in-Some.more.now c.args.text.now c.in-Some.ensures.whole
    c.in-Some.ensures.first
    (no_quote_first c.in-Some.more.now c.in-None.ensures) c.loop-before.invariant.2 in
    (subst IsUtf8 (sym name) both, ends ∙ ap (λ n. Some (n, c.in-Some.more.now)) (sym name))

pub returns : goal.returns
returns c = name_is_open c.loop-before.name c.loop-before.rest.now c.args.text.now c.in_default.ensures c.loop-before.invariant.2
