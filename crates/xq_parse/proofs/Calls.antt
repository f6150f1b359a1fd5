-- Calls and updates: what is read is in the grammar, and what is in the grammar is read.
use Rattle.std.proofs.Common.{◌≡◌, ℕ, suc, ◌<◌, Bool, true, false, ◌||◌, List, [], ◌∷◌, ◌++◌, Option, None, Some, refl, ap, sym, ◌∙◌, subst, arith}
use Rattle.std.specs.Prelude.{bytes_eq, if◌then◌else◌, codes}
use Rattle.std.proofs.lemmas.List.{append-nil}
use Rattle.xq_ast.specs.declared.token.Symbol.TheVariants.{Dollar}
use Rattle.xq_ast.specs.declared.token.Token.{Token}
use Rattle.xq_ast.specs.declared.token.Token.TheVariants.{Name, Text, Int, Symbol as Mark}
use Rattle.xq_ast.specs.declared.token.Token.TheVariants as token
use Rattle.xq_ast.specs.declared.tree.Expr.{Expr}
use Rattle.xq_ast.specs.declared.update.Update.{Update}
use Rattle.xq_ast.specs.declared.update.Update.TheVariants as updates
use Rattle.xq_ast.specs.declared.call.Call.{Call}
use Rattle.xq_ast.specs.declared.call.Call.TheVariants as calls
use Rattle.xq_ast.specs.Tokens.{◌>>=◌}
use Rattle.xq_ast.specs.Grammar as grammar
use Rattle.xq_ast.specs.Grammar.{IsSingle, IsExpr, IsUpdate, IsCall, is_statement, is_statement_word}
use Rattle.xq_ast.specs.Readings.{Reader, Relation, word, a_name, variable, expr, single, alone_at, relation, inserted, insert, replace, rename, deleted, an_update, alone, named, document, begin, show, updating, query, row, call_over}
use Rattle.xq_parse.proofs.Taken.{same_bytes, Front, Takes, step_sound, last_sound, token_sound, stands_sound, under, choose, word_takes, a_name_takes, variable_takes}
use Rattle.xq_parse.proofs.Sound.{single_takes, expr_takes}
use Rattle.xq_parse.proofs.Turns.{then_is}
use Rattle.xq_parse.proofs.Follow.{rank, word_rank, word_rank_is}
use Rattle.xq_parse.proofs.Balance.{nest, nest-left, nest-right}
use Rattle.xq_parse.proofs.Complete.{single_starts, expr_read}
use Rattle.xq_parse.proofs.Singles.{single_read}
use Rattle.xq_parse.proofs.Options.{bind_some, some_is}

-- ---- updates that are read

relation_token : Relation → Token
relation_token Relation.into = Name (codes "into")
relation_token Relation.preceding = Name (codes "preceding")
relation_token Relation.following = Name (codes "following")

relation_takes : Takes (λ us r. us ≡ relation_token r ∷ []) relation
unfolding relation_token
relation_takes = record { takes = go }
  where
    go : (ts : List Token) (r : Relation × List Token) → relation ts ≡ Some r → Front (λ us r. us ≡ relation_token r ∷ []) ts r
    go (Name w ∷ ts) r e =
        choose (bytes_eq w (codes "into")) _ _ (Some r) e
        (λ same f. stands_sound (Name (codes "into") ∷ []) Relation.into _ ts r (ap (λ x. Name x ∷ ts) (same_bytes w (codes "into") same)) f refl) (λ other f.
        choose (bytes_eq w (codes "preceding")) _ _ (Some r) f
        (λ same f. stands_sound (Name (codes "preceding") ∷ []) Relation.preceding _ ts r (ap (λ x. Name x ∷ ts) (same_bytes w (codes "preceding") same)) f refl) (λ other f.
        choose (bytes_eq w (codes "following")) _ _ (Some r) f
        (λ same f. stands_sound (Name (codes "following") ∷ []) Relation.following _ ts r (ap (λ x. Name x ∷ ts) (same_bytes w (codes "following") same)) f refl) (λ other f. cc)))
    go _ r e = cc

insert_joins : (r : Relation) (us vs ws : List Token) (s t : Expr) → vs ≡ relation_token r ∷ [] → IsSingle us s → IsSingle ws t → IsUpdate (Name (codes "insert") ∷ (us ++ (vs ++ ws))) (inserted r s t)
unfolding relation_token
insert_joins Relation.into us vs ws s t h p q = subst (λ l. IsUpdate (Name (codes "insert") ∷ (us ++ (l ++ ws))) (updates.Into s t)) (sym h) (grammar.IsUpdate.into p q)
insert_joins Relation.preceding us vs ws s t h p q = subst (λ l. IsUpdate (Name (codes "insert") ∷ (us ++ (l ++ ws))) (updates.Preceding s t)) (sym h) (grammar.IsUpdate.preceding p q)
insert_joins Relation.following us vs ws s t h p q = subst (λ l. IsUpdate (Name (codes "insert") ∷ (us ++ (l ++ ws))) (updates.Following s t)) (sym h) (grammar.IsUpdate.following p q)

module _ (inner : Reader Expr) (inner_takes : Takes IsSingle inner) where
  insert_takes : Takes (λ us u. IsUpdate (Name (codes "insert") ∷ us) u) (insert inner)
  insert_takes = record {
    takes = λ ts r e.
        step_sound inner _ ts r inner_takes e (λ s us left p f.
        step_sound relation _ left r relation_takes f (λ w vs left h f.
        last_sound (λ t. inserted w s t) inner left r inner_takes f (λ t ws q. insert_joins w us vs ws s t h p q)));
  }

  delete_takes : Takes (λ us u. IsUpdate (Name (codes "delete") ∷ us) u) (deleted updates.Delete inner)
  delete_takes = record { takes = λ ts r e. last_sound updates.Delete inner ts r inner_takes e (λ t us p. grammar.IsUpdate.delete p) }

  undeep_takes : Takes (λ us u. IsUpdate (Name (codes "delete_undeep") ∷ us) u) (deleted updates.DeleteUndeep inner)
  undeep_takes = record { takes = λ ts r e. last_sound updates.DeleteUndeep inner ts r inner_takes e (λ t us p. grammar.IsUpdate.delete_undeep p) }

  replace_takes : Takes (λ us u. IsUpdate (Name (codes "replace") ∷ us) u) (replace inner)
  replace_takes = record {
    takes = λ ts r e.
        step_sound variable _ ts r variable_takes e (λ name us left h f.
        token_sound (Name (codes "in")) (word (codes "in")) _ left r (word_takes (codes "in")) f (λ left f.
        step_sound inner _ left r inner_takes f (λ t vs left p f.
        token_sound (Name (codes "with")) (word (codes "with")) _ left r (word_takes (codes "with")) f (λ left f.
        last_sound (λ b. updates.Replace name t b) inner left r inner_takes f (λ b ws q.
        subst (λ l. IsUpdate (Name (codes "replace") ∷ (l ++ (Name (codes "in") ∷ (vs ++ (Name (codes "with") ∷ ws))))) (updates.Replace name t b)) (sym h) (grammar.IsUpdate.replace p q))))));
  }

  rename_takes : Takes (λ us u. IsUpdate (Name (codes "rename") ∷ us) u) (rename inner)
  rename_takes = record {
    takes = λ ts r e.
        step_sound inner _ ts r inner_takes e (λ t us left p f.
        token_sound (Name (codes "on")) (word (codes "on")) _ left r (word_takes (codes "on")) f (λ left f.
        last_sound (λ name. updates.Rename t name) a_name left r a_name_takes f (λ name vs h.
        subst (λ l. IsUpdate (Name (codes "rename") ∷ (us ++ (Name (codes "on") ∷ l))) (updates.Rename t name)) (sym h) (grammar.IsUpdate.rename p))));
  }

  -- an update behind its word
  behind_word : (w v : List ℕ) (ts : List Token) (r : Update × List Token) (reader : Reader Update) → bytes_eq w v ≡ true → Takes (λ us u. IsUpdate (Name v ∷ us) u) reader → reader ts ≡ Some r → Front IsUpdate (Name w ∷ ts) r
  behind_word w v ts r reader same takes e = under (Name v ∷ []) (Name w ∷ ts) ts r (ap (λ x. Name x ∷ ts) (same_bytes w v same)) (takes.takes ts r e)

  update_takes : Takes IsUpdate (an_update inner)
  update_takes = record { takes = go }
    where
      go : (ts : List Token) (r : Update × List Token) → an_update inner ts ≡ Some r → Front IsUpdate ts r
      go (Name w ∷ ts) r e =
          choose (bytes_eq w (codes "insert")) _ _ (Some r) e (λ same f. behind_word w (codes "insert") ts r (insert inner) same insert_takes f) (λ other f.
          choose (bytes_eq w (codes "delete")) _ _ (Some r) f (λ same f. behind_word w (codes "delete") ts r (deleted updates.Delete inner) same delete_takes f) (λ other f.
          choose (bytes_eq w (codes "delete_undeep")) _ _ (Some r) f (λ same f. behind_word w (codes "delete_undeep") ts r (deleted updates.DeleteUndeep inner) same undeep_takes f) (λ other f.
          choose (bytes_eq w (codes "replace")) _ _ (Some r) f (λ same f. behind_word w (codes "replace") ts r (replace inner) same replace_takes f) (λ other f.
          choose (bytes_eq w (codes "rename")) _ _ (Some r) f (λ same f. behind_word w (codes "rename") ts r (rename inner) same rename_takes f) (λ other f. cc)))))
      go _ r e = cc

-- where nothing is left, the whole is in the grammar
ends : {A : Type 0} (x : A × List Token) (y : A) → alone_at x ≡ Some y → (x.1 ≡ []) × (x.0 ≡ y)
ends (x, []) y e = (refl, some_is e)
ends (x, t ∷ ts) y e = cc

whole_sound : {A : Type 0} {P : List Token → A → Type 0} (reader : Reader A) (make : A → Call) (ts : List Token) (c : Call) → Takes P reader
    → (reader ts >>= alone_at >>= (λ x. let y : Option Call = Some (make x) in y)) ≡ Some c → (x : A) × P ts x × (make x ≡ c)
whole_sound {A} {P} reader make ts c takes e =
    let a = bind_some (reader ts >>= alone_at) (λ x. let y : Option Call = Some (make x) in y) c e in
    let b = bind_some (reader ts) alone_at a.0 a.1 in
    let front = takes.takes ts b.0 b.1 in
    let end = ends b.0 a.0 b.2 in
    let same : ts ≡ front.used = front.whole ∙ (ap (λ r. front.used ++ r) end.0 ∙ append-nil front.used) in
    (a.0, subst (λ x. P ts x) end.1 (subst (λ l. P l b.0.0) (sym same) front.holds), some_is a.2)

query_sound : (n : ℕ) (ts : List Token) (pyx : List (List ℕ)) (c : Call) → is_statement ts ≡ false → query (single n) ts ≡ Some c → IsCall ts pyx c
query_sound n ts pyx c free e =
    let w = whole_sound (expr (single n)) calls.Query ts c (expr_takes (single n) (single_takes n)) e in
    subst (λ d. IsCall ts pyx d) w.2 (grammar.IsCall.query free w.1)

updating_sound : (n : ℕ) (ts : List Token) (pyx : List (List ℕ)) (c : Call) → updating (single n) ts ≡ Some c → IsCall (Name (codes "UPDATE") ∷ ts) pyx c
updating_sound n ts pyx c e =
    let w = whole_sound (an_update (single n)) calls.Update ts c (update_takes (single n) (single_takes n)) e in
    subst (λ d. IsCall (Name (codes "UPDATE") ∷ ts) pyx d) w.2 (grammar.IsCall.update w.1)

-- ---- statements that are read

alone_sound : (the_call c : Call) (ts : List Token) → alone the_call ts ≡ Some c → (ts ≡ []) × (the_call ≡ c)
alone_sound the_call c [] e = (refl, cc)
alone_sound the_call c (t ∷ ts) e = cc

-- one string, and the call that is made of it
record IsNamed (make : List ℕ → Call) (ts : List Token) (c : Call) : Type 0 where
  pub name : List ℕ
  pub whole : ts ≡ token.Text name ∷ []
  pub made : make name ≡ c

named_sound : (make : List ℕ → Call) (c : Call) (ts : List Token) → named make ts ≡ Some c → IsNamed make ts c
named_sound make c [] e = cc
named_sound make c (token.Text name ∷ []) e = record { name = name; whole = refl; made = cc }
named_sound make c (token.Text name ∷ t ∷ ts) e = cc
named_sound make c (token.Name name ∷ ts) e = cc
named_sound make c (token.Int n ∷ ts) e = cc
named_sound make c (token.Symbol s ∷ ts) e = cc

-- the word DOCUMENT, one string, and the call that is made of it
record IsDocument (make : List ℕ → Call) (ts : List Token) (c : Call) : Type 0 where
  pub name : List ℕ
  pub whole : ts ≡ token.Name (codes "DOCUMENT") ∷ token.Text name ∷ []
  pub made : make name ≡ c

document_sound : (make : List ℕ → Call) (c : Call) (ts : List Token) → document make ts ≡ Some c → IsDocument make ts c
document_sound make c [] e = cc
document_sound make c (token.Text name ∷ ts) e = cc
document_sound make c (token.Int n ∷ ts) e = cc
document_sound make c (token.Symbol s ∷ ts) e = cc
document_sound make c (token.Name w ∷ ts) e =
    choose (bytes_eq w (codes "DOCUMENT")) (named make ts) None (Some c) e
    (λ is r.
    let n = named_sound make c ts r in
    let same = same_bytes w (codes "DOCUMENT") is in
    record { name = n.name; whole = ap (λ x. token.Name x ∷ ts) same ∙ ap (λ us. token.Name (codes "DOCUMENT") ∷ us) n.whole; made = n.made })
    (λ other none. cc)

-- a row that has its first word alone
alone_row : (word the_word : List ℕ) (ts : List Token) (pyx : List (List ℕ)) (the_call c : Call) → IsCall (token.Name the_word ∷ []) pyx the_call
    → bytes_eq word the_word ≡ true → alone the_call ts ≡ Some c
    → IsCall (token.Name word ∷ ts) pyx c
alone_row word the_word ts pyx the_call c is same r =
    let both = alone_sound the_call c ts r in
    let e : token.Name the_word ∷ [] ≡ token.Name word ∷ ts = ap (λ w. token.Name w ∷ []) (sym (same_bytes word the_word same))
    ∙ ap (λ us. token.Name word ∷ us) (sym both.0) in
    subst (λ us. IsCall us pyx c) e (subst (λ d. IsCall (token.Name the_word ∷ []) pyx d) both.1 is)

-- a row that has its first word and a string
named_row : (word the_word : List ℕ) (ts : List Token) (pyx : List (List ℕ)) (make : List ℕ → Call) (c : Call)
    → ((name : List ℕ) → IsCall (token.Name the_word ∷ token.Text name ∷ []) pyx (make name))
    → bytes_eq word the_word ≡ true → named make ts ≡ Some c → IsCall (token.Name word ∷ ts) pyx c
named_row word the_word ts pyx make c is same r =
    let n = named_sound make c ts r in
    let e : token.Name the_word ∷ token.Text n.name ∷ [] ≡ token.Name word ∷ ts =
    ap (λ w. token.Name w ∷ token.Text n.name ∷ []) (sym (same_bytes word the_word same)) ∙ ap (λ us. token.Name word ∷ us) (sym n.whole) in
    subst (λ us. IsCall us pyx c) e (subst (λ d. IsCall (token.Name the_word ∷ token.Text n.name ∷ []) pyx d) n.made (is n.name))

-- a row that has its first word, the word DOCUMENT and a string
document_row : (word the_word : List ℕ) (ts : List Token) (pyx : List (List ℕ)) (make : List ℕ → Call) (c : Call)
    → ((name : List ℕ) → IsCall (token.Name the_word ∷ token.Name (codes "DOCUMENT") ∷ token.Text name ∷ []) pyx (make name)) → bytes_eq word the_word ≡ true
    → document make ts ≡ Some c
    → IsCall (token.Name word ∷ ts) pyx c
document_row word the_word ts pyx make c is same r =
    let n = document_sound make c ts r in
    let tail = token.Name (codes "DOCUMENT") ∷ token.Text n.name ∷ [] in
    let e : token.Name the_word ∷ tail ≡ token.Name word ∷ ts = ap (λ w. token.Name w ∷ tail) (sym (same_bytes word the_word same))
    ∙ ap (λ us. token.Name word ∷ us) (sym n.whole) in
    subst (λ us. IsCall us pyx c) e (subst (λ d. IsCall (token.Name the_word ∷ tail) pyx d) n.made (is n.name))

-- the rows of the word BEGIN
begin_sound : (ts : List Token) (pyx : List (List ℕ)) (c : Call) → begin ts ≡ Some c → IsCall (token.Name (codes "BEGIN") ∷ ts) pyx c
begin_sound [] pyx c e = let is : calls.Begin ≡ c = cc in subst (λ d. IsCall (token.Name (codes "BEGIN") ∷ []) pyx d) is grammar.IsCall.begin
begin_sound (token.Name word ∷ []) pyx c e =
    choose (bytes_eq word (codes "READ-ONLY")) (Some calls.BeginRead) None (Some c) e
    (λ same r.
    let is : calls.BeginRead ≡ c = cc in
    let w : codes "READ-ONLY" ≡ word = sym (same_bytes word (codes "READ-ONLY") same) in
    subst (λ x. IsCall (token.Name (codes "BEGIN") ∷ token.Name x ∷ []) pyx c) w
    (subst (λ d. IsCall (token.Name (codes "BEGIN") ∷ token.Name (codes "READ-ONLY") ∷ []) pyx d) is grammar.IsCall.begin_read))
    (λ other none. cc)
begin_sound (token.Name word ∷ t ∷ ts) pyx c e = cc
begin_sound (token.Text name ∷ ts) pyx c e = cc
begin_sound (token.Int n ∷ ts) pyx c e = cc
begin_sound (token.Symbol s ∷ ts) pyx c e = cc

begin_row : (word : List ℕ) (ts : List Token) (pyx : List (List ℕ)) (c : Call) → bytes_eq word (codes "BEGIN") ≡ true → begin ts ≡ Some c
    → IsCall (token.Name word ∷ ts) pyx c
begin_row word ts pyx c same r = subst (λ w. IsCall (token.Name w ∷ ts) pyx c) (sym (same_bytes word (codes "BEGIN") same)) (begin_sound ts pyx c r)

show_sound : (ts : List Token) (pyx : List (List ℕ)) (c : Call) → show ts ≡ Some c → IsCall (token.Name (codes "SHOW") ∷ ts) pyx c
show_sound (token.Name w ∷ []) pyx c e =
    choose (bytes_eq w (codes "DOCUMENTS")) (Some calls.ShowDocuments) None (Some c) e
    (λ same r.
    let is : calls.ShowDocuments ≡ c = some_is r in
    subst (λ x. IsCall (token.Name (codes "SHOW") ∷ token.Name x ∷ []) pyx c) (sym (same_bytes w (codes "DOCUMENTS") same))
    (subst (λ d. IsCall (token.Name (codes "SHOW") ∷ token.Name (codes "DOCUMENTS") ∷ []) pyx d) is grammar.IsCall.show_documents))
    (λ other none. cc)
show_sound [] pyx c e = cc
show_sound (token.Name w ∷ t ∷ ts) pyx c e = cc
show_sound (token.Text name ∷ ts) pyx c e = cc
show_sound (token.Int n ∷ ts) pyx c e = cc
show_sound (token.Symbol s ∷ ts) pyx c e = cc

-- a row whose word a test finds
under_word : (word the_word : List ℕ) (ts : List Token) (pyx : List (List ℕ)) (c : Call) → bytes_eq word the_word ≡ true → IsCall (token.Name the_word ∷ ts) pyx c → IsCall (token.Name word ∷ ts) pyx c
under_word word the_word ts pyx c same is = subst (λ w. IsCall (token.Name w ∷ ts) pyx c) (sym (same_bytes word the_word same)) is

row_sound : (n : ℕ) (word : List ℕ) (ts : List Token) (pyx : List (List ℕ)) (c : Call) → row (single n) word ts pyx ≡ Some c → IsCall (token.Name word ∷ ts) pyx c
row_sound n word ts pyx c e =
    choose _ _ _ (Some c) e (λ same r. under_word word (codes "BEGIN") ts pyx c same (begin_sound ts pyx c r)) (λ no_begin e.
    choose _ _ _ (Some c) e (λ same r. alone_row word (codes "COMMIT") ts pyx calls.Commit c grammar.IsCall.commit same r) (λ no_commit e.
    choose _ _ _ (Some c) e (λ same r. alone_row word (codes "ROLLBACK") ts pyx calls.Rollback c grammar.IsCall.rollback same r) (λ no_rollback e.
    choose _ _ _ (Some c) e (λ same r. alone_row word (codes "CHECKPOINT") ts pyx calls.Checkpoint c grammar.IsCall.checkpoint same r) (λ no_checkpoint e.
    choose _ _ _ (Some c) e (λ same r. under_word word (codes "SHOW") ts pyx c same (show_sound ts pyx c r)) (λ no_show e.
    choose _ _ _ (Some c) e (λ same r. document_row word (codes "CREATE") ts pyx calls.Create c (λ name. grammar.IsCall.create) same r) (λ no_create e.
    choose _ _ _ (Some c) e (λ same r. document_row word (codes "DROP") ts pyx calls.Drop c (λ name. grammar.IsCall.drop) same r) (λ no_drop e.
    choose _ _ _ (Some c) e (λ same r. named_row word (codes "LOAD") ts pyx (λ name. calls.Load name pyx) c (λ name. grammar.IsCall.load) same r) (λ no_load e.
    choose _ _ _ (Some c) e (λ same r. named_row word (codes "EXPORT") ts pyx calls.Export c (λ name. grammar.IsCall.export) same r) (λ no_export e.
    choose _ _ _ (Some c) e (λ same r. under_word word (codes "UPDATE") ts pyx c same (updating_sound n ts pyx c r)) (λ no_update e.
    query_sound n (token.Name word ∷ ts) pyx c (rw (no_begin, no_commit, no_rollback, no_checkpoint, no_show, no_create, no_drop, no_load, no_export, no_update) refl) e))))))))))

-- what is read is in the grammar
pub call_sound : (n : ℕ) (ts : List Token) (pyx : List (List ℕ)) (c : Call) → call_over (single n) ts pyx ≡ Some c → IsCall ts pyx c
call_sound n (token.Name word ∷ ts) pyx c e = row_sound n word ts pyx c e
call_sound n [] pyx c e = query_sound n [] pyx c refl e
call_sound n (token.Text name ∷ ts) pyx c e = query_sound n (token.Text name ∷ ts) pyx c refl e
call_sound n (token.Int i ∷ ts) pyx c e = query_sound n (token.Int i ∷ ts) pyx c refl e
call_sound n (token.Symbol s ∷ ts) pyx c e = query_sound n (token.Symbol s ∷ ts) pyx c refl e

-- ---- what is in the grammar is read

last_read : (n : ℕ) (ts : List Token) (e : Expr) → IsSingle ts e → nest ts < n → single n ts ≡ Some (e, [])
last_read n ts e d small = ap (single n) (sym (append-nil ts)) ∙ single_read n ts e d small [] (omega arith)

-- a word behind a single expression and before one
word_between : (w : List ℕ) (us : List Token) (e : Expr) → IsSingle us e → word_rank w false < 1 → rank (Name w ∷ us) < 1
word_between w us e d less = let h = word_rank_is w us (single_starts d) in omega (arith, h)

update_read : (n : ℕ) {ts : List Token} {what : Update} → IsUpdate ts what → nest ts < n → an_update (single n) ts ≡ Some (what, [])
update_read n (grammar.IsUpdate.into {ts = us} {us = vs} {s} {t} p q) small =
    then_is (single n (us ++ Name (codes "into") ∷ vs)) _ (s, Name (codes "into") ∷ vs) _
    (single_read n us s p (omega (arith, nest-right (Name (codes "insert") ∷ []) (us ++ Name (codes "into") ∷ vs), nest-left us (Name (codes "into") ∷ vs))) (Name (codes "into") ∷ vs) (word_between (codes "into") vs t q (omega arith)))
    (then_is (single n vs) _ (t, []) _ (last_read n vs t q (omega (arith, nest-right (Name (codes "insert") ∷ []) (us ++ Name (codes "into") ∷ vs), nest-right us (Name (codes "into") ∷ vs), nest-right (Name (codes "into") ∷ []) vs))) refl)
update_read n (grammar.IsUpdate.preceding {ts = us} {us = vs} {s} {t} p q) small =
    then_is (single n (us ++ Name (codes "preceding") ∷ vs)) _ (s, Name (codes "preceding") ∷ vs) _
    (single_read n us s p (omega (arith, nest-right (Name (codes "insert") ∷ []) (us ++ Name (codes "preceding") ∷ vs), nest-left us (Name (codes "preceding") ∷ vs))) (Name (codes "preceding") ∷ vs) (word_between (codes "preceding") vs t q (omega arith)))
    (then_is (single n vs) _ (t, []) _ (last_read n vs t q (omega (arith, nest-right (Name (codes "insert") ∷ []) (us ++ Name (codes "preceding") ∷ vs), nest-right us (Name (codes "preceding") ∷ vs), nest-right (Name (codes "preceding") ∷ []) vs))) refl)
update_read n (grammar.IsUpdate.following {ts = us} {us = vs} {s} {t} p q) small =
    then_is (single n (us ++ Name (codes "following") ∷ vs)) _ (s, Name (codes "following") ∷ vs) _
    (single_read n us s p (omega (arith, nest-right (Name (codes "insert") ∷ []) (us ++ Name (codes "following") ∷ vs), nest-left us (Name (codes "following") ∷ vs))) (Name (codes "following") ∷ vs) (word_between (codes "following") vs t q (omega arith)))
    (then_is (single n vs) _ (t, []) _ (last_read n vs t q (omega (arith, nest-right (Name (codes "insert") ∷ []) (us ++ Name (codes "following") ∷ vs), nest-right us (Name (codes "following") ∷ vs), nest-right (Name (codes "following") ∷ []) vs))) refl)
update_read n (grammar.IsUpdate.delete {ts = us} {t} p) small = then_is (single n us) _ (t, []) _ (last_read n us t p (omega (arith, nest-right (Name (codes "delete") ∷ []) us))) refl
update_read n (grammar.IsUpdate.delete_undeep {ts = us} {t} p) small = then_is (single n us) _ (t, []) _ (last_read n us t p (omega (arith, nest-right (Name (codes "delete_undeep") ∷ []) us))) refl
update_read n (grammar.IsUpdate.replace {name} {ts = us} {us = vs} {t} {e} p q) small =
    let front = Name (codes "replace") ∷ Mark Dollar ∷ Name name ∷ Name (codes "in") ∷ [] in
    let back = Name (codes "with") ∷ vs in
    then_is (single n (us ++ back)) _ (t, back) _ (single_read n us t p (omega (arith, nest-right front (us ++ back), nest-left us back)) back (word_between (codes "with") vs e q (omega arith)))
    (then_is (single n vs) _ (e, []) _ (last_read n vs e q (omega (arith, nest-right front (us ++ back), nest-right us back, nest-right (Name (codes "with") ∷ []) vs))) refl)
update_read n (grammar.IsUpdate.rename {ts = us} {t} {name} p) small =
    let back = Name (codes "on") ∷ Name name ∷ [] in
    then_is (single n (us ++ back)) _ (t, back) _ (single_read n us t p (omega (arith, nest-right (Name (codes "rename") ∷ []) (us ++ back), nest-left us back)) back (omega arith)) refl

-- no statement's word is a query
statements_apart : {A : Type 0} (a b c d e f g h i j : Bool) (p q r s t u v w x y z : A) → (a || b || c || d || e || f || g || h || i || j) ≡ false
    → (if a then p else if b then q else if c then r else if d then s else if e then t else if f then u else if g then v else if h then w else if i then x else if j then y else z) ≡ z
statements_apart true b c d e f g h i j p q r s t u v w x y z free = cc
statements_apart false true c d e f g h i j p q r s t u v w x y z free = cc
statements_apart false false true d e f g h i j p q r s t u v w x y z free = cc
statements_apart false false false true e f g h i j p q r s t u v w x y z free = cc
statements_apart false false false false true f g h i j p q r s t u v w x y z free = cc
statements_apart false false false false false true g h i j p q r s t u v w x y z free = cc
statements_apart false false false false false false true h i j p q r s t u v w x y z free = cc
statements_apart false false false false false false false true i j p q r s t u v w x y z free = cc
statements_apart false false false false false false false false true j p q r s t u v w x y z free = cc
statements_apart false false false false false false false false false true p q r s t u v w x y z free = cc
statements_apart false false false false false false false false false false p q r s t u v w x y z free = refl

query_row : (inner : Reader Expr) (ts : List Token) (pyx : List (List ℕ)) → is_statement ts ≡ false → call_over inner ts pyx ≡ query inner ts
query_row inner (token.Name w ∷ ts) pyx free =
    statements_apart (bytes_eq w (codes "BEGIN")) (bytes_eq w (codes "COMMIT")) (bytes_eq w (codes "ROLLBACK")) (bytes_eq w (codes "CHECKPOINT"))
    (bytes_eq w (codes "SHOW")) (bytes_eq w (codes "CREATE")) (bytes_eq w (codes "DROP")) (bytes_eq w (codes "LOAD"))
    (bytes_eq w (codes "EXPORT")) (bytes_eq w (codes "UPDATE"))
    (begin ts) (alone calls.Commit ts) (alone calls.Rollback ts) (alone calls.Checkpoint ts) (show ts) (document calls.Create ts) (document calls.Drop ts)
    (named (λ name. calls.Load name pyx) ts) (named calls.Export ts) (updating inner ts) (query inner (token.Name w ∷ ts)) free
query_row inner [] pyx free = refl
query_row inner (token.Text name ∷ ts) pyx free = refl
query_row inner (token.Int i ∷ ts) pyx free = refl
query_row inner (token.Symbol s ∷ ts) pyx free = refl

query_read : (n : ℕ) {ts : List Token} {e : Expr} → IsExpr ts e → nest ts < n → query (single n) ts ≡ Some (calls.Query e)
query_read n {ts} {e} d small =
    let here : expr (single n) ts ≡ Some (e, []) = ap (expr (single n)) (sym (append-nil ts))
    ∙ expr_read n (single n) (single_takes n) (λ ts e d small left h. single_read n ts e d small left h) d small [] (record { loose = omega arith; no_comma = refl }) in
    ap (λ o. o >>= alone_at >>= (λ x. let y : Option Call = Some (calls.Query x) in y)) here

-- a call in the grammar is read, where its single expressions stand no deeper than may be
pub call_read : (n : ℕ) {ts : List Token} {pyx : List (List ℕ)} {c : Call} → IsCall ts pyx c → nest ts < n → call_over (single n) ts pyx ≡ Some c
call_read n grammar.IsCall.begin small = refl
call_read n grammar.IsCall.begin_read small = refl
call_read n grammar.IsCall.commit small = refl
call_read n grammar.IsCall.rollback small = refl
call_read n grammar.IsCall.checkpoint small = refl
call_read n grammar.IsCall.show_documents small = refl
call_read n grammar.IsCall.create small = refl
call_read n grammar.IsCall.drop small = refl
call_read n grammar.IsCall.load small = refl
call_read n grammar.IsCall.export small = refl
call_read n (grammar.IsCall.update {ts} {what} d) small =
    ap (λ o. o >>= alone_at >>= (λ x. let y : Option Call = Some (calls.Update x) in y)) (update_read n d (omega (arith, nest-right (Name (codes "UPDATE") ∷ []) ts)))
call_read n (grammar.IsCall.query {ts} {pyx} free d) small = query_row (single n) ts pyx free ∙ query_read n d small

-- no tokens are two calls
pub one_call : (ts : List Token) (pyx : List (List ℕ)) (a b : Call) → IsCall ts pyx a → IsCall ts pyx b → a ≡ b
one_call ts pyx a b p q = some_is (sym (call_read (suc (nest ts)) p (omega arith)) ∙ call_read (suc (nest ts)) q (omega arith))
