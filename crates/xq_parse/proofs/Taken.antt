-- What readings take: a front of the tokens that a fact holds of. Here for readings made of readings, and for what is
-- looked at ahead.
use Rattle.std.proofs.Common.{◌≡◌, ℕ, zero, suc, Bool, true, false, List, [], ◌∷◌, ◌++◌, length, Option, Some, None, inl, inr, refl, ap, sym, ◌∙◌, subst, append_assoc}
use Rattle.std.specs.Prelude.{bytes_eq, if◌then◌else◌, ◌&&◌, codes, ◌⊎◌}
use Rattle.std.proofs.lemmas.Slice.Eq.{bytes_eq-Decides}
use Rattle.std.proofs.lemmas.List.{append-nil}
use Rattle.xq_ast.specs.declared.token.Symbol.TheVariants.{OpenRound, CloseRound, OpenSquare, CloseSquare, OpenCurly, CloseCurly, Comma, Slash, SlashSlash, ColonColon, Assign, Equal, NotEqual, Less, LessOrEqual, Greater, GreaterOrEqual, Plus, Minus, Star, Bar, Dollar}
use Rattle.xq_ast.specs.declared.token.Token.{Token}
use Rattle.xq_ast.specs.declared.token.Token.TheVariants.{Name, Symbol as Mark}
use Rattle.xq_ast.specs.declared.tree.CompareOp.{CompareOp}
use Rattle.xq_ast.specs.declared.tree.CompareOp.TheVariants as compare
use Rattle.xq_ast.specs.declared.tree.ProductOp.{ProductOp}
use Rattle.xq_ast.specs.declared.tree.ProductOp.TheVariants.{Times, Idiv, Mod}
use Rattle.xq_ast.specs.Tokens.{◌>>=◌}
use Rattle.xq_ast.specs.Grammar.{is_keyword, compare_symbol}
use Rattle.xq_ast.specs.Readings.{Reader, Behind, ClauseWord, comma, close_round, close_square, close_curly, open_square, assign, word, two_words, a_name, variable, compare_op, sum_op, product_op, union_op, slash, behind_name, repeated_at, repeated, items, followed, paired_at, paired, there, there_at, clause_word}
use Rattle.xq_parse.proofs.Options.{bind_some, some_is}

-- bytes that a test finds equal are equal
pub same_bytes : (a b : List ℕ) → bytes_eq a b ≡ true → a ≡ b
same_bytes a b e = (bytes_eq-Decides a b).0 e

-- a front of the tokens that the fact holds of, before the rest
pub record Front {A : Type 0} (P : List Token → A → Type 0) (ts : List Token) (r : A × List Token) : Type 0 where
  pub used : List Token
  pub holds : P used r.0
  pub whole : ts ≡ used ++ r.1

-- a reader takes such a front
pub record Takes {A : Type 0} (P : List Token → A → Type 0) (reader : Reader A) : Type 0 where
  pub takes : (ts : List Token) (r : A × List Token) → reader ts ≡ Some r → Front P ts r

-- one token
pub record TakesToken (t : Token) (look : List Token → Option (List Token)) : Type 0 where
  pub takes : (ts us : List Token) → look ts ≡ Some us → ts ≡ t ∷ us

-- ---- readers after readers

-- a reader, then another over what is left
pub step_sound : {A C : Type 0} {P : List Token → A → Type 0} {Q : List Token → C → Type 0} (reader : Reader A) (f : A × List Token → Option (C × List Token))
    (ts : List Token) (r : C × List Token) → Takes P reader → (reader ts >>= f) ≡ Some r
    → ((x : A) (us rest : List Token) → P us x → f (x, rest) ≡ Some r → Front (λ vs c. Q (us ++ vs) c) rest r) → Front Q ts r
step_sound {Q} reader f ts r takes e more =
    let a = bind_some (reader ts) f r e in
    let first = takes.takes ts a.0 a.1 in
    let rest = more a.0.0 first.used a.0.1 first.holds a.2 in
    record { used = first.used ++ rest.used; holds = rest.holds; whole = first.whole ∙ (ap (λ x. first.used ++ x) rest.whole ∙ sym (append_assoc first.used rest.used r.1)) }

-- the last reader
pub last_sound : {A C : Type 0} {P : List Token → A → Type 0} {Q : List Token → C → Type 0} (make : A → C) (reader : Reader A) (ts : List Token) (r : C × List Token)
    → Takes P reader → (reader ts >>= (λ e. let x : Option (C × List Token) = Some (make e.0, e.1) in x)) ≡ Some r → ((x : A) (us : List Token) → P us x → Q us (make x)) → Front Q ts r
last_sound {C} {Q} make reader ts r takes e more =
    let a = bind_some (reader ts) (λ e. let x : Option (C × List Token) = Some (make e.0, e.1) in x) r e in
    let first = takes.takes ts a.0 a.1 in
    subst (λ x. Front Q ts x) (some_is a.2) (record { used = first.used; holds = more a.0.0 first.used first.holds; whole = first.whole })

-- a token, then a reader
pub token_sound : {C : Type 0} {Q : List Token → C → Type 0} (t : Token) (look : List Token → Option (List Token)) (f : List Token → Option (C × List Token))
    (ts : List Token) (r : C × List Token) → TakesToken t look → (look ts >>= f) ≡ Some r
    → ((us : List Token) → f us ≡ Some r → Front (λ vs c. Q (t ∷ vs) c) us r) → Front Q ts r
token_sound t look f ts r takes e more =
    let a = bind_some (look ts) f r e in
    let rest = more a.0 a.2 in
    record { used = t ∷ rest.used; holds = rest.holds; whole = takes.takes ts a.0 a.1 ∙ ap (λ x. t ∷ x) rest.whole }

-- a token that ends what is read
pub end_sound : {C : Type 0} {Q : List Token → C → Type 0} (t : Token) (look : List Token → Option (List Token)) (c : C) (ts : List Token) (r : C × List Token)
    → TakesToken t look → (look ts >>= (λ us. let x : Option (C × List Token) = Some (c, us) in x)) ≡ Some r → Q (t ∷ []) c → Front Q ts r
end_sound {C} {Q} t look c ts r takes e holds =
    let a = bind_some (look ts) (λ us. let x : Option (C × List Token) = Some (c, us) in x) r e in
    subst (λ x. Front Q ts x) (some_is a.2) (record { used = t ∷ []; holds = holds; whole = takes.takes ts a.0 a.1 })

-- nothing more
pub nothing_sound : {C : Type 0} {Q : List Token → C → Type 0} (c : C) (ts : List Token) (r : C × List Token) → Some (c, ts) ≡ Some r → Q [] c → Front Q ts r
nothing_sound {Q} c ts r e holds = subst (λ x. Front Q ts x) (some_is e) (record { used = []; holds = holds; whole = refl })

-- tokens that stand there
pub stands_sound : {C : Type 0} {Q : List Token → C → Type 0} (used : List Token) (c : C) (ts us : List Token) (r : C × List Token) → ts ≡ used ++ us → Some (c, us) ≡ Some r → Q used c → Front Q ts r
stands_sound {Q} used c ts us r whole e holds = subst (λ x. Front Q ts x) (some_is e) (record { used = used; holds = holds; whole = whole })

-- a front before which a token stands
pub under : {C : Type 0} {Q : List Token → C → Type 0} (used : List Token) (ts us : List Token) (r : C × List Token) → ts ≡ used ++ us → Front (λ vs c. Q (used ++ vs) c) us r → Front Q ts r
under used ts us r whole front = record {
  used = used ++ front.used;
  holds = front.holds;
  whole = whole ∙ (ap (λ x. used ++ x) front.whole ∙ sym (append_assoc used front.used r.1));
}

-- a first part, then what follows it
pub followed_sound : {A B C : Type 0} {P : List Token → A → Type 0} {R : List Token → B → Type 0} {Q : List Token → C → Type 0} (make : A → B → C) (first : Reader A) (rest : Reader B)
    → Takes P first → Takes R rest → ((x : A) (y : B) (us vs : List Token) → P us x → R vs y → Q (us ++ vs) (make x y)) → Takes Q (followed make first rest)
followed_sound {B} {C} {Q} make first rest p q joins = record {
  takes = λ ts r e. step_sound first (λ f. rest f.1 >>= (λ r. let x : Option (C × List Token) = Some (make f.0 r.0, r.1) in x)) ts r p e
      (λ x us left h f. last_sound (λ y. make x y) rest left r q f (λ y vs g. joins x y us vs h g));
}

module _ {S A B : Type 0} (separator : Reader S) (item : S → Reader A) (add : S → A → B → B) (none : B)
    (P : S → List Token → A → Type 0) (R : List Token → B → Type 0) (IsSeparator : List Token → S → Type 0)
    (separates : Takes IsSeparator separator) (item_takes : (s : S) → Takes (P s) (item s)) (empty : R [] none)
    (more : (s : S) (us vs ws : List Token) (x : A) (xs : B) → IsSeparator us s → P s vs x → R ws xs → R (us ++ (vs ++ ws)) (add s x xs)) where
  repeated_go : (n : ℕ) → Takes R (repeated separator item add none n) → (ts : List Token) (q : B × List Token) (o : Option (S × List Token)) → separator ts ≡ o
      → repeated_at separator item add none o ts (repeated separator item add none n) ≡ Some q → Front R ts q
  repeated_go n again ts q None is e = nothing_sound none ts q e empty
  repeated_go n again ts q (Some s) is e =
      let first = separates.takes ts s is in
      under first.used ts s.1 q first.whole
      (step_sound (item s.0) (λ r. repeated separator item add none n r.1 >>= (λ q. let x : Option (B × List Token) = Some (add s.0 r.0 q.0, q.1) in x)) s.1 q (item_takes s.0) e
      (λ x vs left h f. last_sound (λ xs. add s.0 x xs) (repeated separator item add none n) left q again f (λ xs ws g. more s.0 first.used vs ws x xs first.holds h g)))

  repeated_sound : (n : ℕ) → Takes R (repeated separator item add none n)
  repeated_sound zero = record { takes = λ ts r e. nothing_sound none ts r e empty }
  repeated_sound (suc n) = record { takes = λ ts r e. repeated_go n (repeated_sound n) ts r (separator ts) refl e }

  -- repeated items take what the fact of lists holds of, if it holds of no tokens and of an item before a list
  pub items_sound : Takes R (items separator item add none)
  items_sound = record { takes = λ ts r e. (repeated_sound (length ts)).takes ts r e }

-- one operator, or none
pub paired_sound : {S A : Type 0} {P Q : List Token → A → Type 0} {IsSeparator : List Token → S → Type 0} (op : Reader S) (make : A → S → A → A) (part : Reader A)
    → Takes IsSeparator op → Takes P part → ((x : A) (us : List Token) → P us x → Q us x)
    → ((x y : A) (s : S) (us vs ws : List Token) → P us x → IsSeparator vs s → P ws y → Q (us ++ (vs ++ ws)) (make x s y)) → Takes Q (paired op make part)
paired_sound {S} {A} {P} {Q} op make part is p alone both = record {
  takes = λ ts r e. step_sound part (λ l. paired_at make part l (op l.1)) ts r p e (λ x us left h f. go x us left h (op left) refl f);
}
  where
    go : {r : A × List Token} (x : A) (us left : List Token) → P us x → (o : Option (S × List Token)) → op left ≡ o → paired_at make part (x, left) o ≡ Some r
        → Front (λ vs c. Q (us ++ vs) c) left r
    go {r} x us left h None none e = nothing_sound x left r e (subst (λ l. Q l x) (sym (append-nil us)) (alone x us h))
    go {r} x us left h (Some s) some e =
        let middle = is.takes left s some in
        under middle.used left s.1 r middle.whole (last_sound (λ y. make x s.0 y) part s.1 r p e (λ y ws g. both x y s.0 us middle.used ws h middle.holds g))

-- ---- looking ahead

-- what is looked at as a comma is one
pub comma_takes : TakesToken (Mark Comma) comma
comma_takes = record { takes = go }
  where
    go : (ts us : List Token) → comma ts ≡ Some us → ts ≡ Mark Comma ∷ us
    go (Mark Comma ∷ ts) us e = ap (λ x. Mark Comma ∷ x) (some_is e)
    go _ us e = cc

-- what is looked at as a closing round bracket is one
pub close_round_takes : TakesToken (Mark CloseRound) close_round
close_round_takes = record { takes = go }
  where
    go : (ts us : List Token) → close_round ts ≡ Some us → ts ≡ Mark CloseRound ∷ us
    go (Mark CloseRound ∷ ts) us e = ap (λ x. Mark CloseRound ∷ x) (some_is e)
    go _ us e = cc

-- what is looked at as a closing square bracket is one
pub close_square_takes : TakesToken (Mark CloseSquare) close_square
close_square_takes = record { takes = go }
  where
    go : (ts us : List Token) → close_square ts ≡ Some us → ts ≡ Mark CloseSquare ∷ us
    go (Mark CloseSquare ∷ ts) us e = ap (λ x. Mark CloseSquare ∷ x) (some_is e)
    go _ us e = cc

-- what is looked at as a closing curly bracket is one
pub close_curly_takes : TakesToken (Mark CloseCurly) close_curly
close_curly_takes = record { takes = go }
  where
    go : (ts us : List Token) → close_curly ts ≡ Some us → ts ≡ Mark CloseCurly ∷ us
    go (Mark CloseCurly ∷ ts) us e = ap (λ x. Mark CloseCurly ∷ x) (some_is e)
    go _ us e = cc

-- what is looked at as an opening square bracket is one
pub open_square_takes : TakesToken (Mark OpenSquare) open_square
open_square_takes = record { takes = go }
  where
    go : (ts us : List Token) → open_square ts ≡ Some us → ts ≡ Mark OpenSquare ∷ us
    go (Mark OpenSquare ∷ ts) us e = ap (λ x. Mark OpenSquare ∷ x) (some_is e)
    go _ us e = cc

-- what is looked at as := is that
pub assign_takes : TakesToken (Mark Assign) assign
assign_takes = record { takes = go }
  where
    go : (ts us : List Token) → assign ts ≡ Some us → ts ≡ Mark Assign ∷ us
    go (Mark Assign ∷ ts) us e = ap (λ x. Mark Assign ∷ x) (some_is e)
    go _ us e = cc

-- a test that is passed, or not
pub choose : {A P : Type 0} (b : Bool) (x y : A) (c : A) → (if b then x else y) ≡ c → (b ≡ true → x ≡ c → P) → (b ≡ false → y ≡ c → P) → P
choose true x y c e yes_ no_ = yes_ refl e
choose false x y c e yes_ no_ = no_ refl e

-- what is looked at as a word is this word
pub word_takes : (w : List ℕ) → TakesToken (Name w) (word w)
word_takes w = record { takes = go }
  where
    go : (ts us : List Token) → word w ts ≡ Some us → ts ≡ Name w ∷ us
    go (Name v ∷ ts) us e =
        choose (bytes_eq v w) (Some ts) None (Some us) e (λ same f. ap (λ x. Name x ∷ ts) (same_bytes v w same) ∙ ap (λ x. Name w ∷ x) (some_is f)) (λ other f. cc)
    go _ us e = cc

-- what is looked at as two words are these two
pub two_words_take : (v w : List ℕ) (ts us : List Token) → two_words v w ts ≡ Some us → ts ≡ Name v ∷ Name w ∷ us
two_words_take v w (Name a ∷ Name b ∷ ts) us e = go (bytes_eq a v) (bytes_eq b w) refl refl e
  where
    go : (p q : Bool) → bytes_eq a v ≡ p → bytes_eq b w ≡ q → (if p && q then Some ts else None) ≡ Some us → Name a ∷ Name b ∷ ts ≡ Name v ∷ Name w ∷ us
    go true true p q f = ap (λ x. Name x ∷ Name b ∷ ts) (same_bytes a v p) ∙ (ap (λ x. Name v ∷ Name x ∷ ts) (same_bytes b w q) ∙ ap (λ x. Name v ∷ Name w ∷ x) (some_is f))
    go true false p q f = cc
    go false q p h f = cc
two_words_take v w _ us e = cc

-- a separator of one token that says nothing
pub there_takes : (t : Token) (look : List Token → Option (List Token)) → TakesToken t look → Takes (λ us s. us ≡ t ∷ []) (there look)
there_takes t look is = record { takes = λ ts r e. go ts r (look ts) refl e }
  where
    go : (ts : List Token) (r : Unit {0} × List Token) (o : Option (List Token)) → look ts ≡ o → there_at o ≡ Some r → Front (λ us s. us ≡ t ∷ []) ts r
    go ts r None none e = cc
    go ts r (Some us) some e = stands_sound (t ∷ []) tt ts us r (is.takes ts us some) e refl

-- what is read as the operator of a union is | or the word union
pub union_op_takes : Takes (λ us s. (us ≡ Mark Bar ∷ []) ⊎ (us ≡ Name (codes "union") ∷ [])) (there union_op)
union_op_takes = record { takes = go }
  where
    go : (ts : List Token) (r : Unit {0} × List Token) → there union_op ts ≡ Some r → Front (λ us s. (us ≡ Mark Bar ∷ []) ⊎ (us ≡ Name (codes "union") ∷ [])) ts r
    go (Mark Bar ∷ ts) r e = stands_sound (Mark Bar ∷ []) tt _ ts r refl e (inl refl)
    go (Name w ∷ ts) r e = by_test (bytes_eq w (codes "union")) refl e
      where
        by_test : (b : Bool) → bytes_eq w (codes "union") ≡ b → there_at (if b then Some ts else None) ≡ Some r
            → Front (λ us s. (us ≡ Mark Bar ∷ []) ⊎ (us ≡ Name (codes "union") ∷ [])) (Name w ∷ ts) r
        by_test true same f = stands_sound (Name (codes "union") ∷ []) tt _ ts r (ap (λ x. Name x ∷ ts) (same_bytes w (codes "union") same)) f (inr refl)
        by_test false other f = cc
    go _ r e = cc

-- the token of a slash: // where it is deep, and else /
abbrev pub slash_token : Bool → Token
slash_token true = Mark SlashSlash
slash_token false = Mark Slash

-- what is read as a slash is / or //, as it says
pub slash_takes : Takes (λ us deep. us ≡ slash_token deep ∷ []) slash
slash_takes = record { takes = go }
  where
    go : (ts : List Token) (r : Bool × List Token) → slash ts ≡ Some r → Front (λ us deep. us ≡ slash_token deep ∷ []) ts r
    go (Mark Slash ∷ ts) r e = stands_sound (Mark Slash ∷ []) false _ ts r refl e refl
    go (Mark SlashSlash ∷ ts) r e = stands_sound (Mark SlashSlash ∷ []) true _ ts r refl e refl
    go _ r e = cc

-- the token of an operator of a sum: - where it is minus, and else +
abbrev pub sum_token : Bool → Token
sum_token true = Mark Minus
sum_token false = Mark Plus

-- what is read as the operator of a sum is + or -, as it says
pub sum_op_takes : Takes (λ us minus. us ≡ sum_token minus ∷ []) sum_op
sum_op_takes = record { takes = go }
  where
    go : (ts : List Token) (r : Bool × List Token) → sum_op ts ≡ Some r → Front (λ us minus. us ≡ sum_token minus ∷ []) ts r
    go (Mark Plus ∷ ts) r e = stands_sound (Mark Plus ∷ []) false _ ts r refl e refl
    go (Mark Minus ∷ ts) r e = stands_sound (Mark Minus ∷ []) true _ ts r refl e refl
    go _ r e = cc

-- the token of an operator of a product: *, or one of the words idiv and mod
abbrev pub product_token : ProductOp → Token
product_token Times = Mark Star
product_token Idiv = Name (codes "idiv")
product_token Mod = Name (codes "mod")

-- what is read as the operator of a product is the token of this operator
pub product_op_takes : Takes (λ us op. us ≡ product_token op ∷ []) product_op
product_op_takes = record { takes = go }
  where
    go : (ts : List Token) (r : ProductOp × List Token) → product_op ts ≡ Some r → Front (λ us op. us ≡ product_token op ∷ []) ts r
    go (Mark Star ∷ ts) r e = stands_sound (Mark Star ∷ []) Times _ ts r refl e refl
    go (Name w ∷ ts) r e =
        choose (bytes_eq w (codes "idiv")) _ _ (Some r) e (λ same f. stands_sound (Name (codes "idiv") ∷ []) Idiv _ ts r (ap (λ x. Name x ∷ ts) (same_bytes w (codes "idiv") same)) f refl) (λ other f.
        choose (bytes_eq w (codes "mod")) _ _ (Some r) f (λ same g. stands_sound (Name (codes "mod") ∷ []) Mod _ ts r (ap (λ x. Name x ∷ ts) (same_bytes w (codes "mod") same)) g refl) (λ other g. cc))
    go _ r e = cc

-- what is read as the operator of a comparison is the symbol of this operator
pub compare_op_takes : Takes (λ us op. us ≡ Mark (compare_symbol op) ∷ []) compare_op
compare_op_takes = record { takes = go }
  where
    go : (ts : List Token) (r : CompareOp × List Token) → compare_op ts ≡ Some r → Front (λ us op. us ≡ Mark (compare_symbol op) ∷ []) ts r
    go (Mark Equal ∷ ts) r e = stands_sound (Mark Equal ∷ []) compare.Eq _ ts r refl e refl
    go (Mark NotEqual ∷ ts) r e = stands_sound (Mark NotEqual ∷ []) compare.Ne _ ts r refl e refl
    go (Mark Less ∷ ts) r e = stands_sound (Mark Less ∷ []) compare.Lt _ ts r refl e refl
    go (Mark LessOrEqual ∷ ts) r e = stands_sound (Mark LessOrEqual ∷ []) compare.Le _ ts r refl e refl
    go (Mark Greater ∷ ts) r e = stands_sound (Mark Greater ∷ []) compare.Gt _ ts r refl e refl
    go (Mark GreaterOrEqual ∷ ts) r e = stands_sound (Mark GreaterOrEqual ∷ []) compare.Ge _ ts r refl e refl
    go _ r e = cc

-- what is read as a name is this name
pub a_name_takes : Takes (λ us name. us ≡ Name name ∷ []) a_name
a_name_takes = record { takes = go }
  where
    go : (ts : List Token) (r : List ℕ × List Token) → a_name ts ≡ Some r → Front (λ us name. us ≡ Name name ∷ []) ts r
    go (Name name ∷ ts) r e = stands_sound (Name name ∷ []) name _ ts r refl e refl
    go _ r e = cc

-- what is read as $Name is $ and this name
pub variable_takes : Takes (λ us name. us ≡ Mark Dollar ∷ Name name ∷ []) variable
variable_takes = record { takes = go }
  where
    go : (ts : List Token) (r : List ℕ × List Token) → variable ts ≡ Some r → Front (λ us name. us ≡ Mark Dollar ∷ Name name ∷ []) ts r
    go (Mark Dollar ∷ Name name ∷ ts) r e = stands_sound (Mark Dollar ∷ Name name ∷ []) name _ ts r refl e refl
    go _ r e = cc

-- the token of a clause's word: for or let
abbrev pub clause_token : ClauseWord → Token
clause_token ClauseWord.for_word = Name (codes "for")
clause_token ClauseWord.let_word = Name (codes "let")

-- what is read as the word of a clause is this word
pub clause_word_takes : Takes (λ us w. us ≡ clause_token w ∷ []) clause_word
clause_word_takes = record { takes = go }
  where
    go : (ts : List Token) (r : ClauseWord × List Token) → clause_word ts ≡ Some r → Front (λ us w. us ≡ clause_token w ∷ []) ts r
    go (Name w ∷ ts) r e =
        choose (bytes_eq w (codes "for")) _ _ (Some r) e
        (λ same f. stands_sound (Name (codes "for") ∷ []) ClauseWord.for_word _ ts r (ap (λ x. Name x ∷ ts) (same_bytes w (codes "for") same)) f refl) (λ other f.
        choose (bytes_eq w (codes "let")) _ _ (Some r) f
        (λ same g. stands_sound (Name (codes "let") ∷ []) ClauseWord.let_word _ ts r (ap (λ x. Name x ∷ ts) (same_bytes w (codes "let") same)) g refl) (λ other g. cc))
    go _ r e = cc

-- what stands behind a name stands there
abbrev pub IsBehind : Behind → List Token → Type 0
IsBehind (Behind.dollar us) ts = ts ≡ Mark Dollar ∷ us
IsBehind (Behind.round us) ts = ts ≡ Mark OpenRound ∷ us
IsBehind (Behind.curly us) ts = ts ≡ Mark OpenCurly ∷ us
IsBehind (Behind.name_curly name us) ts = ts ≡ Name name ∷ Mark OpenCurly ∷ us
IsBehind (Behind.colons us) ts = ts ≡ Mark ColonColon ∷ us
IsBehind Behind.other ts = (w : List ℕ) → is_keyword (Name w ∷ ts) ≡ false

-- what tokens after a name are found to be they are
pub behind_is : (ts : List Token) → IsBehind (behind_name ts) ts
behind_is (Mark Dollar ∷ ts) = refl
behind_is (Mark OpenRound ∷ ts) = refl
behind_is (Mark OpenCurly ∷ ts) = refl
behind_is (Name name ∷ Mark OpenCurly ∷ ts) = refl
behind_is (Mark ColonColon ∷ ts) = refl
behind_is _ = λ w. refl
