-- What is there and what is to come are all, one step after another.
use Rattle.std.proofs.Common.{◌≡◌, List, ◌++◌, sym, ◌∙◌, ap, append_assoc}

pub so-far : {A : Type 0} (old new step rest later all : List A) → old ++ rest ≡ all → rest ≡ step ++ later → new
    ≡ old ++ step → new ++ later ≡ all
so-far old new step rest later all h parts stepped = ap (λ xs. xs ++ later) stepped ∙ append_assoc old step later
    ∙ ap (λ xs. old ++ xs) (sym parts) ∙ h
