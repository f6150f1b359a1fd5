-- Single expressions that are in the grammar are read, and lists of them.
use Rattle.std.proofs.Common.{◌≡◌, ℕ, zero, suc, false, List, [], ◌∷◌, ◌++◌, Option, Some, None, refl, ap, ◌∙◌, append_assoc}
use Rattle.std.specs.Prelude.{codes}
use Rattle.xq_ast.specs.declared.token.Symbol.TheVariants.{OpenRound, CloseRound, OpenCurly, Comma, Assign, Dollar}
use Rattle.xq_ast.specs.declared.token.Token.{Token}
use Rattle.xq_ast.specs.declared.token.Token.TheVariants.{Name, Symbol as Mark}
use Rattle.xq_ast.specs.declared.tree.Expr.{Expr}
use Rattle.xq_ast.specs.declared.tree.Bind.{Bind}
use Rattle.xq_ast.specs.declared.tree.Bind.TheVariants as binding
use Rattle.xq_ast.specs.declared.tree.SortKey.{SortKey}
use Rattle.xq_ast.specs.Tokens.{◌>>=◌}
use Rattle.xq_ast.specs.Grammar as grammar
use Rattle.xq_ast.specs.Grammar.{IsTest, IsExpr, IsList, IsCommas, IsContent, IsArguments, IsSingle, IsFlwor, IsClause, IsClauses, IsBind, IsBinds, IsLet, IsLets, IsWhere, IsOrder, IsKey, IsKeys, IsIf, IsOr, IsOrs, IsAnd, IsAnds, IsComp, IsRange, IsSum, IsSumParts, IsProduct, IsProductParts, IsUnion, IsUnions, IsSigned, IsPath, IsSteps, IsFilter, IsPreds, IsPrimary, IsStep, is_keyword, is_test_word, is_doc_word, is_function_word, plain, name_token, axis_word, compare_symbol, sign_symbol, sequence_of, group_of, or_of, and_of, sum_of, product_of, union_of, signed_of, filter_of, path_of, steps_of, key, sum_part, product_part, step_behind}
use Rattle.xq_ast.specs.Grammar.{step as step_with}
use Rattle.xq_ast.specs.Readings.{Reader, Begins, ClauseWord, comma, two_words, items, there, put, expr, place, bind_in, bind, more_binds, binds, let_bind, more_lets, lets, clause_word, clause, more_clauses, first_clause, clauses, filter_at, filter, direction, key_at, sort_key, more_keys, sort_keys, order_at, order, flwor, an_if, begins, single_at, single_over, single}
use Rattle.std.proofs.Common.{◌<◌, ◌≤◌, arith}
use Rattle.xq_parse.proofs.Taken.{Takes}
use Rattle.xq_parse.proofs.Sound as sound
use Rattle.xq_parse.proofs.Turns.{items_turn, items_stop, items_next, followed_at, followed_over, then_is}
use Rattle.xq_parse.proofs.Follow.{is_curly, word_rank, rank}
use Rattle.xq_parse.proofs.Complete as rows
use Rattle.xq_parse.proofs.Complete.{Ends, EndsClauses, EndsWhere, single_starts, or_starts, word_before, commas_rank, begins_or, clause_flwor, clauses_end, return_ends, order_ends, where_ends, no_order_words, return_nests, else_nests}
use Rattle.xq_parse.proofs.Balance.{nest, nest-left, nest-right, nest-before_word, nest-behind_word, words-right, nest-inside, expr_balanced}

-- ---- looking ahead

place_in : (us : List Token) → place (Name (codes "in") ∷ us) ≡ (None, Name (codes "in") ∷ us)
place_in (Mark Dollar ∷ Name name ∷ us) = refl
place_in _ = refl

no_curly : (ts : List Token) → rank ts < 10 → is_curly ts ≡ false
no_curly (Mark OpenCurly ∷ ts) less = absurd (omega arith)
no_curly _ less = refl

word_alone : (w : List ℕ) (left : List Token) → word_rank w false < 1 → rank left < 1 → rank (Name w ∷ left) < 1
word_alone w left less h = let e : rank (Name w ∷ left) ≡ word_rank w false = ap (word_rank w) (no_curly left (omega arith)) in omega (arith, e)

binds_rank : {ts : List Token} {bs : List Bind} → IsBinds ts bs → (left : List Token) → rank left < 1 → rank (ts ++ left) < 1
binds_rank grammar.IsBinds.no_bind left h = h
binds_rank (grammar.IsBinds.next_bind p q) left h = omega arith

lets_rank : {ts : List Token} {bs : List Bind} → IsLets ts bs → (left : List Token) → rank left < 1 → rank (ts ++ left) < 1
lets_rank grammar.IsLets.no_let left h = h
lets_rank (grammar.IsLets.next_let p q) left h = omega arith

-- what may stand after a key: no operator and no direction
record EndsKey (ts : List Token) : Type 0 where
  pub loose : rank ts < 1
  pub no_direction : direction ts ≡ (false, ts)

keys_end : {ts : List Token} {ks : List SortKey} → IsKeys ts ks → (left : List Token) → EndsKey left → EndsKey (ts ++ left)
keys_end grammar.IsKeys.no_key left h = h
keys_end (grammar.IsKeys.next_key p q) left h = record { loose = omega arith; no_direction = refl }

module _ (n : ℕ) (inner : Reader Expr) (inner_takes : Takes IsSingle inner)
    (inner_reads : (ts : List Token) (e : Expr) → IsSingle ts e → nest ts < n → (left : List Token) → rank left < 1 → inner (ts ++ left) ≡ Some (e, left)) where
  bind_read : {ts : List Token} {b : Bind} → IsBind ts b → nest ts < n → (left : List Token) → rank left < 1 → bind inner (ts ++ left) ≡ Some (b, left)
  unfolding bind
  bind_read (grammar.IsBind.bind {name} {ts = us} {e} d) small left h =
      ap (bind_in inner name) (place_in (us ++ left))
      ∙ ap (λ o. o >>= (λ e. let x : Option (Bind × List Token) = Some (binding.For name None e.0, e.1) in x))
      (inner_reads us e d (omega (arith, nest-right (Mark Dollar ∷ Name name ∷ Name (codes "in") ∷ []) us)) left h)
  bind_read (grammar.IsBind.bind_at {name} {place = at} {ts = us} {e} d) small left h =
      ap (λ o. o >>= (λ e. let x : Option (Bind × List Token) = Some (binding.For name (Some at) e.0, e.1) in x))
      (inner_reads us e d (omega (arith, nest-right (Mark Dollar ∷ Name name ∷ Name (codes "at") ∷ Mark Dollar ∷ Name at ∷ Name (codes "in") ∷ []) us)) left h)

  more_binds_read : {ts : List Token} {bs : List Bind} → IsBinds ts bs → nest ts < n → (left : List Token) → Ends left → more_binds inner (ts ++ left) ≡ Some (bs, left)
  unfolding more_binds
  more_binds_read grammar.IsBinds.no_bind small left h = items_stop (there comma) (λ s. bind inner) put [] (rows.binds_shrink n inner inner_takes inner_reads) left h.no_comma
  more_binds_read (grammar.IsBinds.next_bind {ts = us} {us = vs} {b} {bs} p q) small left h =
      items_next (there comma) (λ s. bind inner) put [] (rows.binds_shrink n inner inner_takes inner_reads) (Mark Comma ∷ ((us ++ vs) ++ left)) us vs left tt b bs refl
      (bind_read p (omega (arith, nest-left us vs, nest-right (Mark Comma ∷ []) (us ++ vs))) (vs ++ left) (binds_rank q left h.loose))
      (more_binds_read q (omega (arith, nest-right us vs, nest-right (Mark Comma ∷ []) (us ++ vs))) left h)

  let_read : {ts : List Token} {b : Bind} → IsLet ts b → nest ts < n → (left : List Token) → rank left < 1 → let_bind inner (ts ++ left) ≡ Some (b, left)
  unfolding let_bind
  let_read (grammar.IsLet.let_bind {name} {ts = us} {e} d) small left h =
      ap (λ o. o >>= (λ e. let x : Option (Bind × List Token) = Some (binding.Let name e.0, e.1) in x))
      (inner_reads us e d (omega (arith, nest-right (Mark Dollar ∷ Name name ∷ Mark Assign ∷ []) us)) left h)

  more_lets_read : {ts : List Token} {bs : List Bind} → IsLets ts bs → nest ts < n → (left : List Token) → Ends left → more_lets inner (ts ++ left) ≡ Some (bs, left)
  unfolding more_lets
  more_lets_read grammar.IsLets.no_let small left h = items_stop (there comma) (λ s. let_bind inner) put [] (rows.lets_shrink n inner inner_takes inner_reads) left h.no_comma
  more_lets_read (grammar.IsLets.next_let {ts = us} {us = vs} {b} {bs} p q) small left h =
      items_next (there comma) (λ s. let_bind inner) put [] (rows.lets_shrink n inner inner_takes inner_reads) (Mark Comma ∷ ((us ++ vs) ++ left)) us vs left tt b bs refl
      (let_read p (omega (arith, nest-left us vs, nest-right (Mark Comma ∷ []) (us ++ vs))) (vs ++ left) (lets_rank q left h.loose))
      (more_lets_read q (omega (arith, nest-right us vs, nest-right (Mark Comma ∷ []) (us ++ vs))) left h)

  -- a clause is read behind its word
  record IsClauseRead (ts left : List Token) (bs : List Bind) : Type 0 where
    pub which : ClauseWord
    pub after : List Token
    pub is : clause_word ts ≡ Some (which, after)
    pub reads : clause inner which after ≡ Some (bs, left)

  clause_read : {ts : List Token} {bs : List Bind} → IsClause ts bs → nest ts < n → (left : List Token) → Ends left → IsClauseRead (ts ++ left) left bs
  unfolding clause binds lets
  clause_read (grammar.IsClause.for_clause {ts = us} {us = vs} {b} {bs} p q) small left h = record {
    which = ClauseWord.for_word;
    after = (us ++ vs) ++ left;
    is = refl;
    reads = followed_over (λ b bs. b ∷ bs) (bind inner) (more_binds inner) us vs left b bs
        (bind_read p (omega (arith, nest-left us vs, nest-right (Name (codes "for") ∷ []) (us ++ vs))) (vs ++ left) (binds_rank q left h.loose))
        (more_binds_read q (omega (arith, nest-right us vs, nest-right (Name (codes "for") ∷ []) (us ++ vs))) left h);
  }
  clause_read (grammar.IsClause.let_clause {ts = us} {us = vs} {b} {bs} p q) small left h = record {
    which = ClauseWord.let_word;
    after = (us ++ vs) ++ left;
    is = refl;
    reads = followed_over (λ b bs. b ∷ bs) (let_bind inner) (more_lets inner) us vs left b bs
        (let_read p (omega (arith, nest-left us vs, nest-right (Name (codes "let") ∷ []) (us ++ vs))) (vs ++ left) (lets_rank q left h.loose))
        (more_lets_read q (omega (arith, nest-right us vs, nest-right (Name (codes "let") ∷ []) (us ++ vs))) left h);
  }

  first_clause_read : {ts : List Token} {bs : List Bind} → IsClause ts bs → nest ts < n → (left : List Token) → Ends left → first_clause inner (ts ++ left) ≡ Some (bs, left)
  unfolding first_clause
  first_clause_read p small left h = let c = clause_read p small left h in ap (λ o. o >>= (λ w. clause inner w.0 w.1)) c.is ∙ c.reads

  more_clauses_read : {ts : List Token} {bs : List Bind} → IsClauses ts bs → nest ts < n → (left : List Token) → EndsClauses left → more_clauses inner (ts ++ left) ≡ Some (bs, left)
  unfolding more_clauses
  more_clauses_read grammar.IsClauses.no_clause small left h = items_stop clause_word (clause inner) (λ w bs more. bs ++ more) [] (rows.clauses_shrink n inner inner_takes inner_reads) left h.no_clause
  more_clauses_read (grammar.IsClauses.clause {ts = us} {us = vs} {bs} {more} p q) small left h =
      let c = clause_read p (omega (arith, nest-left us vs)) (vs ++ left) (clauses_end q left h.ends) in
      ap (items clause_word (clause inner) (λ w bs more. bs ++ more) []) (append_assoc us vs left)
      ∙ (items_turn clause_word (clause inner) (λ w bs more. bs ++ more) [] (rows.clauses_shrink n inner inner_takes inner_reads) (us ++ (vs ++ left)) (c.which, c.after) (bs, vs ++ left) c.is c.reads
      ∙ ap (λ o. o >>= (λ q. let x : Option (List Bind × List Token) = Some (bs ++ q.0, q.1) in x)) (more_clauses_read q (omega (arith, nest-right us vs)) left h))

  where_read : {ts : List Token} {o : Option Expr} → IsWhere ts o → nest ts < n → (left : List Token) → EndsWhere left → filter inner (ts ++ left) ≡ Some (o, left)
  unfolding filter
  where_read grammar.IsWhere.no_where small left h = ap (filter_at inner left) h.no_where
  where_read (grammar.IsWhere.a_where {ts = us} {e} d) small left h =
      ap (λ o. o >>= (λ e. let x : Option (Option Expr × List Token) = Some (Some e.0, e.1) in x)) (inner_reads us e d (omega (arith, nest-right (Name (codes "where") ∷ []) us)) left h.clauses.ends.loose)

  key_read : {ts : List Token} {k : SortKey} → IsKey ts k → nest ts < n → (left : List Token) → EndsKey left → sort_key inner (ts ++ left) ≡ Some (k, left)
  unfolding sort_key
  key_read (grammar.IsKey.bare_key {ts = us} {e} d) small left h = ap (λ o. o >>= (λ e. key_at e.0 (direction e.1))) (inner_reads us e d small left h.loose) ∙ ap (key_at e) h.no_direction
  key_read (grammar.IsKey.ascending {ts = us} {e} d) small left h =
      ap (sort_key inner) (append_assoc us (Name (codes "ascending") ∷ []) left)
      ∙ ap (λ o. o >>= (λ e. key_at e.0 (direction e.1)))
      (inner_reads us e d (omega (arith, nest-left us (Name (codes "ascending") ∷ []))) (Name (codes "ascending") ∷ left) (word_alone (codes "ascending") left (omega arith) h.loose))
  key_read (grammar.IsKey.descending {ts = us} {e} d) small left h =
      ap (sort_key inner) (append_assoc us (Name (codes "descending") ∷ []) left)
      ∙ ap (λ o. o >>= (λ e. key_at e.0 (direction e.1)))
      (inner_reads us e d (omega (arith, nest-left us (Name (codes "descending") ∷ []))) (Name (codes "descending") ∷ left) (word_alone (codes "descending") left (omega arith) h.loose))

  more_keys_read : {ts : List Token} {ks : List SortKey} → IsKeys ts ks → nest ts < n → (left : List Token) → EndsKey left → there comma left ≡ None → more_keys inner (ts ++ left) ≡ Some (ks, left)
  unfolding more_keys
  more_keys_read grammar.IsKeys.no_key small left h none = items_stop (there comma) (λ s. sort_key inner) put [] (rows.keys_shrink n inner inner_takes inner_reads) left none
  more_keys_read (grammar.IsKeys.next_key {ts = us} {us = vs} {k} {ks} p q) small left h none =
      items_next (there comma) (λ s. sort_key inner) put [] (rows.keys_shrink n inner inner_takes inner_reads) (Mark Comma ∷ ((us ++ vs) ++ left)) us vs left tt k ks refl
      (key_read p (omega (arith, nest-left us vs, nest-right (Mark Comma ∷ []) (us ++ vs))) (vs ++ left) (keys_end q left h))
      (more_keys_read q (omega (arith, nest-right us vs, nest-right (Mark Comma ∷ []) (us ++ vs))) left h none)

  order_read : {ts : List Token} {ks : List SortKey} → IsOrder ts ks → nest ts < n → (left : List Token) → EndsKey left → there comma left ≡ None → two_words (codes "order") (codes "by") left ≡ None
      → order inner (ts ++ left) ≡ Some (ks, left)
  unfolding order sort_keys
  order_read grammar.IsOrder.no_order small left h none no_order = ap (order_at inner left) no_order
  order_read (grammar.IsOrder.order {ts = us} {us = vs} {k} {ks} p q) small left h none no_order =
      followed_over (λ k ks. k ∷ ks) (sort_key inner) (more_keys inner) us vs left k ks
      (key_read p (omega (arith, nest-left us vs, nest-right (Name (codes "order") ∷ Name (codes "by") ∷ []) (us ++ vs))) (vs ++ left) (keys_end q left h))
      (more_keys_read q (omega (arith, nest-right us vs, nest-right (Name (codes "order") ∷ Name (codes "by") ∷ []) (us ++ vs))) left h none)

  -- the parts of a FLWOR expression before what is left
  parts_before : (ts us vs ws xs left : List Token)
      → (ts ++ (us ++ (vs ++ (ws ++ Name (codes "return") ∷ xs)))) ++ left ≡ ts ++ (us ++ (vs ++ (ws ++ Name (codes "return") ∷ (xs ++ left))))
  parts_before ts us vs ws xs left =
      append_assoc ts (us ++ (vs ++ (ws ++ Name (codes "return") ∷ xs))) left
      ∙ ap (λ l. ts ++ l) (append_assoc us (vs ++ (ws ++ Name (codes "return") ∷ xs)) left
      ∙ ap (λ l. us ++ l) (append_assoc vs (ws ++ Name (codes "return") ∷ xs) left ∙ ap (λ l. vs ++ l) (append_assoc ws (Name (codes "return") ∷ xs) left)))

  flwor_read : {ts : List Token} {e : Expr} → IsFlwor ts e → nest ts ≤ n → (left : List Token) → rank left < 1 → flwor inner (ts ++ left) ≡ Some (e, left)
  unfolding flwor clauses
  flwor_read (grammar.IsFlwor.flwor {ts} {us} {vs} {ws} {xs} {first} {more} {filter = o} {keys = ks} {e} a b c d r) small left h =
      let result = Name (codes "return") ∷ xs in
      let after = Name (codes "return") ∷ (xs ++ left) in
      let ends = return_ends xs left (single_starts r) in
      let before_order = order_ends d after ends in
      let before_where = where_ends c (ws ++ after) before_order in
      let in_ws = words-right ws result in
      let in_vs = words-right vs (ws ++ result) in
      let in_us = words-right us (vs ++ (ws ++ result)) in
      let counts = return_nests xs in
      let deep_us = nest-right ts (us ++ (vs ++ (ws ++ result))) in
      let deep_vs = nest-right us (vs ++ (ws ++ result)) in
      let deep_ws = nest-right vs (ws ++ result) in
      let deep_result = nest-right ws result in
      let small_first : nest ts < n = omega (arith, nest-before_word ts (us ++ (vs ++ (ws ++ result))) (omega (arith, in_us, in_vs, in_ws, counts))) in
      let small_more : nest us < n = omega (arith, deep_us, nest-before_word us (vs ++ (ws ++ result)) (omega (arith, in_vs, in_ws, counts))) in
      let small_where : nest vs < n = omega (arith, deep_us, deep_vs, nest-before_word vs (ws ++ result) (omega (arith, in_ws, counts))) in
      let small_order : nest ws < n = omega (arith, deep_us, deep_vs, deep_ws, nest-before_word ws result counts) in
      let small_result : nest xs < n = omega (arith, deep_us, deep_vs, deep_ws, deep_result, nest-behind_word (Name (codes "return") ∷ []) xs (return_nests [])) in
      ap (flwor inner) (parts_before ts us vs ws xs left)
      ∙ then_is (clauses inner (ts ++ (us ++ (vs ++ (ws ++ after))))) _ (first ++ more, vs ++ (ws ++ after)) _
      (followed_at (λ bs more. bs ++ more) (first_clause inner) (more_clauses inner) (ts ++ (us ++ (vs ++ (ws ++ after)))) (us ++ (vs ++ (ws ++ after))) (vs ++ (ws ++ after)) first more
      (first_clause_read a small_first (us ++ (vs ++ (ws ++ after))) (clauses_end b (vs ++ (ws ++ after)) before_where.ends)) (more_clauses_read b small_more (vs ++ (ws ++ after)) before_where))
      (then_is (filter inner (vs ++ (ws ++ after))) _ (o, ws ++ after) _ (where_read c small_where (ws ++ after) before_order)
      (then_is (order inner (ws ++ after)) _ (ks, after) _
      (order_read d small_order after (record { loose = ends.clauses.ends.loose; no_direction = refl }) refl (no_order_words (xs ++ left)))
      (then_is (inner (xs ++ left)) _ (e, left) _ (inner_reads xs e r small_result left h) refl)))

  if_read : {ts : List Token} {e : Expr} → IsIf ts e → nest ts ≤ n → (left : List Token) → rank left < 1 → single_over inner (ts ++ left) ≡ Some (e, left)
  unfolding single_over an_if
  if_read (grammar.IsIf.an_if {ts} {us} {vs} {c} {y} {n = m} a b d) small left h =
      let other = Name (codes "else") ∷ vs in
      let middle = us ++ other in
      let inside = nest-inside (Mark OpenRound) (Mark CloseRound) ts (Name (codes "then") ∷ middle) (λ n. refl) (expr_balanced a) in
      let deep_if = nest-right (Name (codes "if") ∷ []) (Mark OpenRound ∷ (ts ++ Mark CloseRound ∷ Name (codes "then") ∷ middle)) in
      let deep_round = nest-right (Mark OpenRound ∷ []) (ts ++ Mark CloseRound ∷ Name (codes "then") ∷ middle) in
      let deep_ts = nest-right ts (Mark CloseRound ∷ Name (codes "then") ∷ middle) in
      let deep_then = nest-right (Mark CloseRound ∷ Name (codes "then") ∷ []) middle in
      let deep_us = nest-right us other in
      ap (an_if inner) (append_assoc ts (Mark CloseRound ∷ Name (codes "then") ∷ middle) left ∙ ap (λ l. ts ++ Mark CloseRound ∷ Name (codes "then") ∷ l) (append_assoc us other left))
      ∙ then_is (expr inner (ts ++ Mark CloseRound ∷ Name (codes "then") ∷ (us ++ (Name (codes "else") ∷ (vs ++ left))))) _ (c, Mark CloseRound ∷ Name (codes "then") ∷ (us ++ (Name (codes "else") ∷ (vs ++ left)))) _
      (rows.expr_read n inner inner_takes inner_reads a (omega (arith, inside, deep_if)) (Mark CloseRound ∷ Name (codes "then") ∷ (us ++ (Name (codes "else") ∷ (vs ++ left)))) (record { loose = omega arith; no_comma = refl }))
      (then_is (inner (us ++ (Name (codes "else") ∷ (vs ++ left)))) _ (y, Name (codes "else") ∷ (vs ++ left)) _
      (inner_reads us y b (omega (arith, deep_if, deep_round, deep_ts, deep_then, nest-before_word us other (else_nests vs))) (Name (codes "else") ∷ (vs ++ left)) (word_before (codes "else") 1 vs left (single_starts d) (omega arith)))
      (then_is (inner (vs ++ left)) _ (m, left) _ (inner_reads vs m d (omega (arith, deep_if, deep_round, deep_ts, deep_then, deep_us, nest-behind_word (Name (codes "else") ∷ []) vs (else_nests []))) left h) refl))

  flwor_begins : {ts : List Token} {e : Expr} → IsFlwor ts e → (left : List Token) → begins (ts ++ left) ≡ Begins.a_flwor
  flwor_begins (grammar.IsFlwor.flwor {ts} {us} {vs} {ws} {xs} a b c d r) left = ap begins (parts_before ts us vs ws xs left) ∙ clause_flwor a (us ++ (vs ++ (ws ++ Name (codes "return") ∷ (xs ++ left))))

  single_over_read : {ts : List Token} {e : Expr} → IsSingle ts e → nest ts ≤ n → (left : List Token) → rank left < 1 → single_over inner (ts ++ left) ≡ Some (e, left)
  unfolding single_over
  single_over_read (grammar.IsSingle.single_flwor {ts = us} d) small left h = ap (single_at inner (us ++ left)) (flwor_begins d left) ∙ flwor_read d small left h
  single_over_read (grammar.IsSingle.single_if d) small left h = if_read d small left h
  single_over_read (grammar.IsSingle.single_or {ts = us} k d) small left h =
      ap (single_at inner (us ++ left)) (begins_or us left (or_starts d) k h) ∙ rows.or_read n inner inner_takes inner_reads d small left h

-- every single expression that is in the grammar is read, where no more of them stand one in another than may
pub single_read : (n : ℕ) (ts : List Token) (e : Expr) → IsSingle ts e → nest ts < n → (left : List Token) → rank left < 1 → single n (ts ++ left) ≡ Some (e, left)
single_read zero ts e d small left h = absurd (omega arith)
single_read (suc n) ts e d small left h = single_over_read n (single n) (sound.single_takes n) (λ ts e d small left h. single_read n ts e d small left h) d (omega arith) left h
