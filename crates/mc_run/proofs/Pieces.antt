-- A line that is put piece by piece.
use Rattle.std.proofs.Common.{◌≡◌, ℕ, ◌+◌, ◌<◌, min, true, false, List, [], ◌∷◌, ◌++◌, length, get_or, take, drop, map, Option}
use Rattle.std.proofs.Common.{Some, None, Result, Ok, Err, sym, ap, ◌∙◌, subst, append_assoc, arith}
use Rattle.std.specs.List.{concat}
use Rattle.std.specs.Result.{OnOk, OnErr, is_err}
use Rattle.std.specs.Io.KnownBytes.{Appends}
use Rattle.std.proofs.Math.Seq.{take-append-add}
use Rattle.std.proofs.lemmas.List.{append-nil, map_more, map-append, take-append-drop, take-append-le, take_min, drop_more}
use Rattle.std.proofs.lemmas.List.Folds.{concat-append}
use Rattle.std.specs.Prelude.{codes}
use Rattle.std.specs.Fmt.{decimal}
use Rattle.mc_base.specs.Outside.{AppendsPart}
use Rattle.mc_base.specs.declared.refusal.ConstructName.{ConstructName}
use Rattle.mc_base.specs.declared.refusal.Input.{Input}
use Rattle.mc_base.specs.declared.refusal.Refusal.TheVariants.{Construct}
use Rattle.mc_run.specs.Stops.{space, line_feed, input_text, construct_text, refusal_line}

-- what holds on an error holds where there is one
pub at_err : {A E P : Type 0} (r : Result A E) → is_err r ≡ true → OnErr r P → P
at_err (Ok x) is h = cc
at_err (Err y) is h = h

pub at_ok : {A E P : Type 0} (r : Result A E) → is_err r ≡ false → OnOk r P → P
at_ok (Ok x) is h = h
at_ok (Err y) is h = cc

-- one more piece
pub pieces_more : {X : Type 0} (f : X → List ℕ) (xs : List X) (i : ℕ) (d : X) → i < length xs →
    concat (map f (take (i + 1) xs)) ≡ concat (map f (take i xs)) ++ f (get_or xs i d)
pieces_more f xs i d h =
    ap concat (map_more f xs i d h) ∙ concat-append (map f (take i xs)) (f (get_or xs i d) ∷ [])
    ∙ ap (λ t. concat (map f (take i xs)) ++ t) (append-nil (f (get_or xs i d)))

-- the pieces before one, that one, and the others
pub pieces_split : {X : Type 0} (f : X → List ℕ) (xs : List X) (i : ℕ) (d : X) → i < length xs →
    concat (map f xs) ≡ concat (map f (take i xs)) ++ (f (get_or xs i d) ++ concat (map f (drop (i + 1) xs)))
pieces_split f xs i d h =
    ap (λ l. concat (map f l)) (sym (take-append-drop i xs)) ∙ ap concat (map-append f (take i xs) (drop i xs))
    ∙ concat-append (map f (take i xs)) (map f (drop i xs))
    ∙ ap (λ l. concat (map f (take i xs)) ++ concat (map f l)) (drop_more xs i d h)

-- bytes that were added one after another
pub appends_on : (old mid new : Option (List ℕ)) (done piece : List ℕ) → Appends old mid done → Appends mid new piece
    → Appends old new (done ++ piece)
appends_on None mid new done piece first second = tt
appends_on (Some xs) None new done piece first second = absurd first
appends_on (Some xs) (Some ys) None done piece first second = absurd second
appends_on (Some xs) (Some ys) (Some zs) done piece first second =
    second ∙ ap (λ l. l ++ piece) first ∙ append_assoc xs done piece

front : (n : ℕ) (done piece rest : List ℕ)
    → take (length done + min n (length piece)) (done ++ (piece ++ rest)) ≡ done ++ take n piece
front n done piece rest =
    take-append-add done (piece ++ rest) (min n (length piece))
    ∙ ap (λ t. done ++ t) (take-append-le (min n (length piece)) piece rest (omega arith) ∙ take_min n piece)

-- a first part of a piece, after those that were added whole
pub part_on : (old mid new : Option (List ℕ)) (done piece rest : List ℕ) → Appends old mid done → AppendsPart mid new piece
    → AppendsPart old new (done ++ (piece ++ rest))
part_on old mid new done piece rest first part = (
  length done + min part.0 (length piece),
  subst (Appends old new) (sym (front part.0 done piece rest))
      (appends_on old mid new done (take part.0 piece) first part.1),
)

-- the line of a construct, made of its pieces
pub construct_line : (input : Input) (offset : ℕ) (name : ConstructName) (first number last : List ℕ) →
    first ≡ input_text input → number ≡ decimal offset → last ≡ construct_text name →
    concat (codes "construct: " ∷ first ∷ space ∷ number ∷ space ∷ last ∷ line_feed ∷ [])
    ≡ refusal_line (Construct input offset name)
construct_line input offset name first number last e1 e2 e3 =
    ap (λ t. concat (codes "construct: " ∷ t ∷ space ∷ number ∷ space ∷ last ∷ line_feed ∷ [])) e1
    ∙ ap (λ t. concat (codes "construct: " ∷ input_text input ∷ space ∷ t ∷ space ∷ last ∷ line_feed ∷ [])) e2
    ∙ ap (λ t. concat (codes "construct: " ∷ input_text input ∷ space ∷ decimal offset ∷ space ∷ t ∷ line_feed ∷ [])) e3
