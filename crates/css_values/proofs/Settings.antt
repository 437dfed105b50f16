-- No more properties are set than there are values.
use Rattle.std.proofs.Common.{◌≡◌, ℕ, ◌≤◌, List, [], ◌∷◌, ◌++◌, length, drop, refl, ap, sym, ◌∙◌}
use Rattle.std.proofs.lemmas.List.{append-nil, drop_all}
use Rattle.css_values.specs.declared.declared.Longhand.{Longhand}
use Rattle.css_values.specs.declared.declared.Property.{Property}
use Rattle.css_values.specs.declared.form.Simple.{Simple}
use Rattle.css_values.specs.Declarations.{longhands}

longhands-none : (properties : List Property) → longhands properties [] ≡ []
longhands-none [] = refl
longhands-none (property ∷ rest) = refl

pub no_value_more : (set : List Longhand) (properties : List Property) (values : List Simple) (i : ℕ) → length values ≤ i
    → set ++ longhands (drop i properties) (drop i values) ≡ longhands properties values → set ≡ longhands properties values
no_value_more set properties values i past h =
    let none : longhands (drop i properties) (drop i values) ≡ [] =
    ap (λ vs. longhands (drop i properties) vs) (drop_all i values past) ∙ longhands-none (drop i properties) in
    sym (append-nil set) ∙ (ap (λ more. set ++ more) (sym none) ∙ h)
