-- Flows of atoms alone: what they hold doesn't depend on rows, and their heights are bounded.
use Rattle.std.proofs.Common.{◌≡◌, ℕ, zero, suc, ◌+◌, ◌<◌, ◌≤◌, ◌^◌, List, [], ◌∷◌, length, get_or, None, refl, arith, sum_by}
use Rattle.std.proofs.Common.{All}
use Rattle.std.proofs.lemmas.List.Sums.{sum_by-cons}
use Rattle.flow_list.specs.Data.{Flow, FlowsData, Item, Atom, Row}
use Rattle.flow_data.specs.Flows.{no_flow, flow_of, box_of, atom_height, boxes_in}
use Rattle.flow_list.specs.Tokens.{Token, row_start}
use Rattle.flow_list.specs.Atoms.{IsAtom, HoldsAtoms}
use Rattle.flow_data.specs.Soundness.{IsSound, flow_height}
use Rattle.flow_list.specs.Column.{Inner, height_of, row_from}
use Rattle.flow_list.specs.Rows.{heights_from, items_left, left_in, reach}

pub atom-height : (inner : Inner) (item : Item) (q : Token) → IsAtom item → height_of inner item q ≡ atom_height item
atom-height inner (Atom h kind) q a = refl
atom-height inner (Row r) q a = absurd a

pub atom-row : (item : Item) (q : Token) → IsAtom item → row_from item q ≡ None
atom-row (Atom h kind) q a = refl
atom-row (Row r) q a = absurd a

later : (x : Item) (xs : List Item) → All IsAtom (x ∷ xs) → All IsAtom xs
later x xs h = λ k d lt. h (suc k) d (omega arith)

pub atom-heights : (inner : Inner) (q : Token) (items : List Item) → All IsAtom items
    → heights_from inner q items ≡ sum_by atom_height items
atom-heights inner q [] h = refl
atom-heights inner q (x ∷ xs) h =
    let a = atom-height inner x q (h 0 x (omega arith)) in
    let r = atom-heights inner row_start xs (later x xs h) in
    let s = sum_by-cons atom_height x xs in
    omega arith

items-left : (inner : Inner) (q : Token) (items : List Item) → All IsAtom items → items_left inner q items ≡ length items
items-left inner q [] h = refl
items-left inner q (Atom height kind ∷ xs) h = let r = items-left inner row_start xs (later (Atom height kind) xs h)
    in omega arith
items-left inner q (Row r ∷ xs) h = absurd (h 0 (Row r) (omega arith))

-- as many items are left at the start as there are
pub atoms-left : (inner : Inner) (f : Flow) → HoldsAtoms f → left_in inner f row_start ≡ length f.items
atoms-left inner f h = items-left inner row_start f.items h

sum-both : (p q : ℕ → ℕ) (xs : List ℕ) → sum_by (λ b. p b + q b) xs ≡ sum_by p xs + sum_by q xs
sum-both p q [] = refl
sum-both p q (x ∷ xs) = let a = sum_by-cons (λ b. p b + q b) x xs in let b = sum_by-cons p x xs in let c = sum_by-cons q x xs
    in let r = sum-both p q xs in omega arith

pub atoms-reach : (inner : Inner) (d : FlowsData) (f : Flow) → HoldsAtoms f → reach inner d f row_start ≡ flow_height d f
atoms-reach inner d f h =
    let a = atom-heights inner row_start f.items h in
    let b = sum-both (λ b. (box_of d b).top) (λ b. (box_of d b).bottom) (boxes_in f) in
    omega arith

pub one-of : {A : Type 0} (g : A → ℕ) (xs : List A) (k : ℕ) (d : A) → k < length xs → g (get_or xs k d) ≤ sum_by g xs
one-of g [] k d lt = absurd (omega arith)
one-of g (x ∷ xs) zero d lt = let s = sum_by-cons g x xs in omega arith
one-of g (x ∷ xs) (suc k) d lt = let s = sum_by-cons g x xs in let r = one-of g xs k d (omega arith) in omega arith

-- all that a flow of atoms may need is below 2^60
pub reach-bound : (inner : Inner) (d : FlowsData) (f : ℕ) → IsSound d → f < length d.flows → HoldsAtoms (flow_of d f)
    → reach inner d (flow_of d f) row_start < 2 ^ 60
reach-bound inner d f sound lt h = let a = atoms-reach inner d (flow_of d f) h
    in let b = one-of (flow_height d) d.flows f no_flow lt in let c = sound.heights in omega arith
