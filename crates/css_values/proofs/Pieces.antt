-- A list of tokens is cut at its first comma.
use Rattle.std.proofs.Common.{◌≡◌, ℕ, suc, ◌<◌, Bool, true, false, List, [], ◌∷◌, ◌++◌, length, take, drop, get_or, refl, ap, sym}
use Rattle.std.proofs.Common.{◌∙◌}
use Rattle.std.specs.List.{list_any, slice_split, onto_first}
use Rattle.std.proofs.lemmas.Bool.{or_parts}
use Rattle.std.proofs.Math.Seq.{drop-cons}
use Rattle.std.proofs.lemmas.List.{take-append-drop}
use Rattle.std.proofs.lemmas.List.Splits.{slice_split-cons_yes, slice_split-cons_no}
use Rattle.css_data.specs.declared.token.CssToken.{CssToken}
use Rattle.css_data.specs.declared.token.CssToken.TheVariants.{Ident, Hash, Quoted, Number, Percent, Dimension, Function, Delim}
use Rattle.css_data.specs.declared.token.CssToken.TheVariants.{Space}
use Rattle.css_values.specs.Families.{is_comma}
use Rattle.css_values.specs.Values.{is_space, significant}

no_space : (token : CssToken) → is_comma token ≡ true → is_space token ≡ false
no_space (Delim ch) h = refl
no_space Space h = cc
no_space (Ident text) h = refl
no_space (Hash text) h = refl
no_space (Quoted text) h = refl
no_space (Number value whole) h = refl
no_space (Percent value) h = refl
no_space (Dimension value unit) h = refl
no_space (Function name) h = refl

significant_space : (token : CssToken) (rest : List CssToken) → is_space token ≡ true
    → significant (token ∷ rest) ≡ significant rest
significant_space token rest h = rw h refl

significant_token : (token : CssToken) (rest : List CssToken) → is_space token ≡ false
    → significant (token ∷ rest) ≡ token ∷ significant rest
significant_token token rest h = rw h refl

abbrev pub Cut : List CssToken → List CssToken → CssToken → Type 0
Cut front rest comma = slice_split is_comma (significant (front ++ comma ∷ rest)) ≡ significant front ∷ slice_split is_comma
    (significant rest)

cut_more : (token : CssToken) (front rest : List CssToken) (comma : CssToken) → is_comma token ≡ false → Cut front rest comma
    → (b : Bool) → is_space token ≡ b → Cut (token ∷ front) rest comma
cut_more token front rest comma plain h true space =
    rw (significant_space token (front ++ comma ∷ rest) space, significant_space token front space) h
cut_more token front rest comma plain h false other =
    rw (significant_token token (front ++ comma ∷ rest) other, significant_token token front other)
    (slice_split-cons_no is_comma token (significant (front ++ comma ∷ rest)) plain ∙ ap (onto_first token) h)

pub cut_at : (front rest : List CssToken) (comma : CssToken) → list_any is_comma front ≡ false → is_comma comma ≡ true
    → Cut front rest comma
cut_at [] rest comma none is =
    rw (significant_token comma rest (no_space comma is)) (slice_split-cons_yes is_comma comma (significant rest) is)
cut_at (token ∷ front) rest comma none is =
    let both = or_parts (is_comma token) (list_any is_comma front) none in
    cut_more token front rest comma both.0 (cut_at front rest comma both.1 is) (is_space token) refl

abbrev pub Whole : List CssToken → Type 0
Whole value = slice_split is_comma (significant value) ≡ significant value ∷ []

whole_more : (token : CssToken) (rest : List CssToken) → is_comma token ≡ false → Whole rest → (b : Bool) → is_space token ≡ b
    → Whole (token ∷ rest)
whole_more token rest plain h true space = rw (significant_space token rest space) h
whole_more token rest plain h false other =
    rw (significant_token token rest other) (slice_split-cons_no is_comma token (significant rest) plain
    ∙ ap (onto_first token) h)

pub no_cut : (value : List CssToken) → list_any is_comma value ≡ false → Whole value
no_cut [] none = refl
no_cut (token ∷ rest) none =
    let both = or_parts (is_comma token) (list_any is_comma rest) none in
    whole_more token rest both.0 (no_cut rest both.1) (is_space token) refl

-- the first comma stands at i
pub cut_here : (value : List CssToken) (i : ℕ) (token : CssToken) → list_any is_comma (take i value) ≡ false → i < length value
    → token ≡ get_or value i token → is_comma token ≡ true
    → slice_split is_comma (significant value) ≡ significant (take i value) ∷ slice_split is_comma
    (significant (drop 1 (drop i value)))
cut_here value i token none below at is =
    let back : drop i value ≡ token ∷ drop (suc i) value = drop-cons value i token below
    ∙ ap (λ t. t ∷ drop (suc i) value) (sym at) in
    let whole : value ≡ take i value ++ token ∷ drop (suc i) value = sym (take-append-drop i value)
    ∙ ap (λ rest. take i value ++ rest) back in
    let rest : drop 1 (drop i value) ≡ drop (suc i) value = ap (λ xs. drop 1 xs) back in
    ap (λ v. slice_split is_comma (significant v)) whole
    ∙ cut_at (take i value) (drop (suc i) value) token none is
    ∙ ap (λ v. significant (take i value) ∷ slice_split is_comma (significant v)) (sym rest)
