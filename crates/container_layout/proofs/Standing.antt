-- The rows laid out, noted by their numbers.
use Rattle.std.proofs.Common.{◌≡◌, ℕ, zero, suc, ◌==◌, ◌<◌, List, [], ◌∷◌, ◌++◌, length, Option, Some, None, get_or}
use Rattle.std.proofs.Common.{true, cond, IfSome, refl, subst, sym, ◌∙◌, ap, arith, ◌⊎◌, inl, inr}
use Rattle.std.proofs.lemmas.Bool.Decides.{nat_tests}
use Rattle.std.proofs.lemmas.List.Elements.{filter-append}
use Rattle.flow_list.specs.Data.{FlowsData, Row, Stack}
use Rattle.flow_list.specs.Certificate.{StackRow}
use Rattle.flow_list.specs.Stacks.{available_to}
use Rattle.flow_data.specs.Flows.{flow_of, item_of}
use Rattle.frag_pool.specs.Growing.{Grows}
use Rattle.frag_pool.specs.Nodes.{Nodes}
use Rattle.frag_pool.proofs.Stays.{stands-growing}
use Rattle.container_layout.specs.Found.{HasStanding, IsStanding, numbered, row_standing}
use Rattle.container_layout.specs.Laid.{IsStack}
use Rattle.container_layout.specs.declared.lay.Stands.{Stands}
use Rattle.container_layout.proofs.Tables.{Among, all_of, row-among, row_here}

pub standing-grows : (d : FlowsData) (p q : Nodes) → Grows p q → (rows : List StackRow) (table : List (Option Stands)) →
    HasStanding d p rows table → HasStanding d q rows table
standing-grows d p q grows rows table has = record {
  found = has.found;
  stand = λ n stands lt at. let is = has.stand n stands lt at in
      record { height = is.height; frag = stands-growing p q grows stands.frag _ is.frag };
}

pub nothing-stands : (d : FlowsData) (p : Nodes) (rows : List StackRow) → HasStanding d p rows []
nothing-stands d p rows = record { found = λ n lt. absurd (omega arith); stand = λ n stands lt at. absurd (omega arith) }

-- an element of a table to which one is added
at-pushed : {X : Type 0} (xs : List X) (x e : X) (n : ℕ) → n < length (xs ++ x ∷ []) →
    ((n < length xs) × (get_or (xs ++ x ∷ []) n e ≡ get_or xs n e)) ⊎ ((n ≡ length xs) × (get_or (xs ++ x ∷ []) n e ≡ x))
at-pushed [] x e zero lt = inr (refl, refl)
at-pushed [] x e (suc n) lt = absurd (omega arith)
at-pushed (y ∷ xs) x e zero lt = inl (omega arith, refl)
at-pushed (y ∷ xs) x e (suc n) lt = elim (at-pushed xs x e n (omega arith)) [
  | inl a ↦ inl (let lt = a.0 in omega arith, a.1)
  | inr b ↦ inr (ap suc b.0, b.1)
]

abbrev Where : List (Option Stands) → Option Stands → ℕ → Type 0
Where table one n = ((n < length table) × (get_or (table ++ one ∷ []) n None ≡ get_or table n None))
    ⊎ ((n ≡ length table) × (get_or (table ++ one ∷ []) n None ≡ one))

pub standing-pushed : (d : FlowsData) (p : Nodes) (rows : List StackRow) (table : List (Option Stands)) (one : Option Stands) →
    HasStanding d p rows table → numbered (length table) rows ≡ row_standing (length table) one →
    IfSome one (IsStanding d p (length table)) → HasStanding d p rows (table ++ one ∷ [])
standing-pushed d p rows table one has found is = record {
  found = λ n lt. first n (at-pushed table one None n lt);
  stand = λ n stands lt at. second n stands at (at-pushed table one None n lt);
}
  where
    first : (n : ℕ) → Where table one n → numbered n rows ≡ row_standing n (get_or (table ++ one ∷ []) n None)
    first n (inl (lt, same)) = has.found n lt ∙ ap (row_standing n) (sym same)
    first n (inr (e, same)) = ap (λ m. numbered m rows) e ∙ found ∙ ap (λ m. row_standing m one) (sym e)
        ∙ ap (row_standing n) (sym same)

    second : (n : ℕ) (stands : Stands) → get_or (table ++ one ∷ []) n None ≡ Some stands → Where table one n →
        IsStanding d p n stands
    second n stands at (inl (lt, same)) = has.stand n stands lt (sym same ∙ at)
    second n stands at (inr (e, same)) =
        let own : one ≡ Some stands = sym same ∙ at in
        let P : Option Stands → Type 0 = λ o. IfSome o (IsStanding d p (length table)) in
        rw e (subst P own is)

-- ---- the row that an item of a stack is

last-one : {X : Type 0} (y x : X) (ys zs : List X) → y ∷ [] ≡ ys ++ x ∷ zs → y ≡ x
last-one y x [] zs e = cc
last-one y x (w ∷ []) zs e = absurd (cc)
last-one y x (w ∷ (v ∷ ys)) zs e = absurd (cc)

none-of : {X : Type 0} (x : X) (ys zs : List X) → [] ≡ ys ++ x ∷ zs → ⊥
none-of x [] zs e = absurd (cc)
none-of x (w ∷ ys) zs e = absurd (cc)

module _ (d : FlowsData) (stack : Stack) (is : IsStack d stack) (k r : ℕ) (lt : k < length (flow_of d stack.flow).items)
    (at : item_of (flow_of d stack.flow) k ≡ Row r) (p : Nodes) (table : List (Option Stands)) (known : r < length table)
    (has : HasStanding d p (all_of d) table) where
  abbrev here : StackRow
  here = row_here d stack k r

  among : Among (all_of d) here
  among = row-among d stack is k r lt at

  own : numbered r (all_of d) ≡ numbered r among.first ++ here ∷ numbered r among.rest
  own =
      let test : (r == r) ≡ true = grind (arith, nat_tests) in
      ap (numbered r) among.is
      ∙ filter-append (λ (x : StackRow). x.row == r) among.first (here ∷ among.rest)
      ∙ ap (λ b. numbered r among.first ++ cond b (here ∷ numbered r among.rest) (numbered r among.rest)) test

  pub row-stands : (o : Option Stands) → get_or table r None ≡ o → o ≡ None → ⊥
  row-stands o e none =
      let found = has.found r known in
      none-of here (numbered r among.first) (numbered r among.rest)
      (sym (found ∙ ap (row_standing r) (e ∙ none)) ∙ own)

  pub row-available : (stands : Stands) → get_or table r None ≡ Some stands →
      stands.available ≡ available_to d stack.bound (flow_of d stack.flow) k
  row-available stands e =
      let found = has.found r known in
      ap (λ (x : StackRow). x.available) (last-one (record { row = r; available = stands.available }) here
      (numbered r among.first) (numbered r among.rest) (sym (found ∙ ap (row_standing r) e) ∙ own))

  pub row-is-standing : (stands : Stands) → get_or table r None ≡ Some stands → IsStanding d p r stands
  row-is-standing stands e = has.stand r stands known e
