-- What the lines of a flow file look like, and what is read in a line.
use Rattle.std.specs.Prelude.{◌≡◌, ℕ, ◌==◌, ◌<◌, ◌≤◌, nat_lt, nat_eq, List, [], ◌∷◌, ◌++◌, length, drop, Bool, true, false}
use Rattle.std.specs.Prelude.{if◌then◌else◌, Option, Some, None, IfSome, codes, ◌⊎◌}
use Rattle.std.specs.List.{starts_with}
use Rattle.std.specs.Str.{bytes_eq}
use Rattle.mc_base.specs.declared.level.Level.{Level}
use Rattle.mc_base.specs.declared.level.Level.TheVariants.{Forced, L0, L1, L2}
use Rattle.mc_base.specs.Finding.{◌>>=◌}
use Rattle.flow_text.specs.declared.line.Form.{Form}
use Rattle.flow_text.specs.declared.line.Form.TheVariants.{Flow, First, Margin, Solid, Wall, Start, End, Atom, Row, Break, Close}
use Rattle.flow_text.specs.Numbers.{IsNumber, field, field_at}

-- L of a break place
abbrev pub level_text : Level → List ℕ
level_text Forced = codes " F"
level_text L0 = codes " 0"
level_text L1 = codes " 1"
level_text L2 = codes " 2"

-- A, the height that the first row may use, `-` where any
abbrev pub available_text : Option ℕ → List ℕ
available_text None = codes " -"
available_text (Some a) = field a

abbrev pub fill_text : Bool → List ℕ
fill_text false = codes " balance"
fill_text true = codes " auto"

abbrev pub inside_text : Bool → List ℕ
inside_text false = codes " auto"
inside_text true = codes " avoid"

-- the amounts of a box that isn't cloned may be left out
abbrev pub IsAmounts : ℕ → ℕ → List ℕ → Type 0
IsAmounts top bottom text = (text ≡ field top ++ field bottom) ⊎ ((top ≡ 0) × (bottom ≡ 0) × (text ≡ []))

-- These bytes are a line that says this.
abbrev pub IsForm : Form → List ℕ → Type 0
IsForm Flow text = text ≡ codes "flow 1"
IsForm (First n w step available auto) text =
    (0 < n) × IsNumber n × IsNumber w × IsNumber step × IfSome available (λ a. (64 ≤ a) × IsNumber a)
    × (text ≡ codes "row" ++ (field n ++ (field w ++ (field step ++ (available_text available ++ fill_text auto)))))
IsForm (Margin u) text = IsNumber u × (text ≡ codes "m" ++ field u)
IsForm (Solid u) text = IsNumber u × (text ≡ codes "s" ++ field u)
IsForm Wall text = text ≡ codes "w"
IsForm (Start number x w avoid top bottom) text =
    IsNumber number × IsNumber x × IsNumber w × IsNumber top × IsNumber bottom
    × (amounts : List ℕ) × IsAmounts top bottom amounts
    × (text ≡ codes "(" ++ (field number ++ (field x ++ (field w ++ (inside_text avoid ++ amounts)))))
IsForm (End number) text = IsNumber number × (text ≡ codes ")" ++ field number)
IsForm (Atom u) text = IsNumber u × (text ≡ codes "a" ++ field u)
IsForm (Row n w step x) text =
    (0 < n) × IsNumber n × IsNumber w × IsNumber step × IsNumber x
    × (text ≡ codes "row" ++ (field n ++ (field w ++ (field step ++ field x))))
IsForm (Break level) text = text ≡ codes "|" ++ level_text level
IsForm Close text = text ≡ codes "end"

-- What is read in a line, field by field.
abbrev pub behind : List ℕ → List ℕ → Option (List ℕ)
behind front bytes = if starts_with nat_eq bytes front then Some (drop (length front) bytes) else None

-- this, where nothing follows
abbrev pub alone : {A : Type 0} → A → List ℕ → Option A
alone x [] = Some x
alone x (b ∷ bytes) = None

unfoldable pub last_field : List ℕ → Option ℕ
last_field bytes = field_at bytes >>= λ f. alone f.0 f.1

abbrev pub last_byte : List ℕ → Option ℕ
last_byte [] = None
last_byte (b ∷ []) = None
last_byte (b ∷ c ∷ []) = if b == 32 then Some c else None
last_byte (b ∷ c ∷ d ∷ bytes) = None

abbrev pub level_of : ℕ → Option Level
level_of c = if c == 70 then Some Forced else
    (if c == 48 then Some L0 else (if c == 49 then Some L1 else (if c == 50 then Some L2 else None)))

unfoldable pub level_at : List ℕ → Option Level
level_at bytes = last_byte bytes >>= level_of

unfoldable pub fill_at : List ℕ → Option Bool
fill_at bytes = if bytes_eq bytes (codes " balance") then Some false else
    (if bytes_eq bytes (codes " auto") then Some true else None)

abbrev pub or_else : {A : Type 0} → Option A → Option A → Option A
or_else None other = other
or_else (Some x) other = Some x

unfoldable pub inside_at : List ℕ → Option (Bool × List ℕ)
inside_at bytes = or_else (behind (codes " auto") bytes >>= λ rest. Some (false, rest))
    (behind (codes " avoid") bytes >>= λ rest. Some (true, rest))

abbrev pub both_at : List ℕ → Option (ℕ × ℕ)
both_at bytes = field_at bytes >>= λ top. last_field top.1 >>= λ bottom. Some (top.0, bottom)

unfoldable pub amounts_at : List ℕ → Option (ℕ × ℕ)
amounts_at [] = Some (0, 0)
amounts_at (b ∷ bytes) = both_at (b ∷ bytes)

unfoldable pub start_at : List ℕ → Option Form
start_at bytes =
    field_at bytes >>= λ number. field_at number.1 >>= λ x. field_at x.1 >>= λ w. inside_at w.1 >>= λ inside.
    amounts_at inside.1 >>= λ amounts.
    Some (Start number.0 x.0 w.0 inside.0 amounts.0 amounts.1)

-- after a fourth number: nothing, or how the row is filled
abbrev pub row_end : ℕ → ℕ → ℕ → ℕ × List ℕ → Option Form
row_end n w step (x, []) = Some (Row n w step x)
row_end n w step (x, b ∷ bytes) =
    if nat_lt x 64 then None else (fill_at (b ∷ bytes) >>= λ auto. Some (First n w step (Some x) auto))

abbrev pub row_open : ℕ → ℕ → ℕ → Option (List ℕ) → List ℕ → Option Form
row_open n w step (Some rest) bytes = fill_at rest >>= λ auto. Some (First n w step None auto)
row_open n w step None bytes = field_at bytes >>= row_end n w step

unfoldable pub row_behind : ℕ → ℕ → ℕ → List ℕ → Option Form
row_behind n w step bytes = row_open n w step (behind (codes " -") bytes) bytes

unfoldable pub row_at : List ℕ → Option Form
row_at bytes = field_at bytes >>= λ n.
    (if n.0 == 0 then None else (field_at n.1 >>= λ w. field_at w.1 >>= λ step. row_behind n.0 w.0 step.0 step.1))

unfoldable pub word_of : List ℕ → Option Form
word_of text =
    if bytes_eq text (codes "w") then Some Wall else
    (if bytes_eq text (codes "end") then Some Close else
    (if bytes_eq text (codes "flow 1") then Some Flow else
    (behind (codes "row") text >>= row_at)))

-- what a line says
unfoldable pub form_of : List ℕ → Option Form
form_of [] = None
form_of (b ∷ rest) =
    if b == 97 then (last_field rest >>= λ u. Some (Atom u)) else
    (if b == 109 then (last_field rest >>= λ u. Some (Margin u)) else
    (if b == 115 then (last_field rest >>= λ u. Some (Solid u)) else
    (if b == 124 then (level_at rest >>= λ level. Some (Break level)) else
    (if b == 40 then start_at rest else
    (if b == 41 then (last_field rest >>= λ u. Some (End u)) else
    word_of (b ∷ rest))))))
