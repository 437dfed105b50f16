-- A selector read from the right: what is left of it, and what a walk to the left tells.
use Rattle.std.specs.Prelude.{◌≡◌, ◌⊎◌, ◌<◌, ◌+◌, ℕ, zero, suc, Bool, true, false, length, IsSomeAnd, slice_get}
use Rattle.html_grammar.specs.declared.dom.Dom.{Dom}
use Rattle.css_data.specs.declared.selector.Join.{Join}
use Rattle.css_data.specs.declared.selector.Join.TheVariants as joins
use Rattle.css_data.specs.declared.selector.Selector.{Selector}
use Rattle.css_select.specs.declared.walk.Walk.{Walk}
use Rattle.css_select.specs.declared.walk.Walk.TheVariants as walks
use Rattle.css_select.specs.Matching.{Stands}
use Rattle.css_select.specs.Places.{ElementsEnd, ParentsAreEarlier}
use Rattle.css_select.specs.Tests.{Meets}

-- there is one join less than compounds, parents are earlier, and elements end
pub record IsReady (selector : Selector) (dom : Dom) : Type 0 where
  pub joined : length selector.joins + 1 ≡ length selector.compounds
  pub parents : ParentsAreEarlier dom
  pub ends : ElementsEnd dom

-- joins to whose left one element at most can stand
abbrev pub is_near : Join → Bool
is_near joins.Descendant = false
is_near joins.Child = true
is_near joins.Next = true
is_near joins.Later = false

-- joins to whose left an ancestor can't stand, or the parent alone
abbrev pub is_level : Join → Bool
is_level joins.Descendant = false
is_level joins.Child = true
is_level joins.Next = true
is_level joins.Later = true

-- m is the nearest that stands to n so; the others, where there can be others, stand so to m
pub record IsNearest (dom : Dom) (join : Join) (m n : ℕ) : Type 0 where
  pub stands : Stands dom join m n
  pub below : m < n
  pub others : (k : ℕ) → Stands dom join k n → (k ≡ m) ⊎ ((is_near join ≡ false) × Stands dom join k m)

-- n meets the compound i
abbrev pub MeetsAt : Dom → Selector → ℕ → ℕ → Type 0
MeetsAt dom s i n = IsSomeAnd (slice_get s.compounds i) (λ c. Meets dom c n)

-- m stands to n as the join after the compound i says, and the join passes the test
abbrev pub JoinedBy : (Join → Bool) → Dom → Selector → ℕ → ℕ → ℕ → Type 0
JoinedBy p dom s i m n = IsSomeAnd (slice_get s.joins i) (λ j. (p j ≡ true) × Stands dom j m n)

abbrev pub any_join : Join → Bool
any_join j = true

-- the part of the selector up to the compound i matches n
abbrev pub UpTo : Dom → Selector → ℕ → ℕ → Type 0
UpTo dom s zero n = MeetsAt dom s zero n
UpTo dom s (suc i) n = (m : ℕ) × MeetsAt dom s (suc i) n × JoinedBy any_join dom s i m n × UpTo dom s i m

-- from the compound i at n a way to the left, over joins that pass the test, comes to the compound q at l
abbrev pub Comes : (Join → Bool) → Dom → Selector → ℕ → ℕ → ℕ → ℕ → Type 0
Comes p dom s zero n q l = (q ≡ zero) × (l ≡ n)
Comes p dom s (suc i) n q l = ((q ≡ suc i) × (l ≡ n))
    ⊎ ((m : ℕ) × MeetsAt dom s (suc i) n × JoinedBy p dom s i m n × Comes p dom s i m q l)

-- the join before the compound q doesn't pass the test
abbrev pub StopsAt : (Join → Bool) → Selector → ℕ → Type 0
StopsAt p s zero = ⊥
StopsAt p s (suc q) = IsSomeAnd (slice_get s.joins q) (λ j. p j ≡ false)

-- a walk from the compound i at n stands at the compound q and l, which matches just where the part up to i matches n
pub record IsOn (over : Join → Bool) (dom : Dom) (s : Selector) (i n q l : ℕ) : Type 0 where
  pub place : q < length s.compounds
  pub node : l < length dom.nodes
  pub comes : Comes over dom s i n q l
  pub all : UpTo dom s i n → UpTo dom s q l

-- it can't go on over joins that pass the test
pub record IsStopped (stop : Join → Bool) (dom : Dom) (s : Selector) (q l : ℕ) : Type 0 where
  pub stops : StopsAt stop s q
  pub meets : MeetsAt dom s q l

-- What a walk from the compound i at n tells: that the part up to there doesn't match n, that it does, or where it stopped.
abbrev pub Tells : (Join → Bool) → (Join → Bool) → Dom → Selector → ℕ → ℕ → Walk → Type 0
Tells over stop dom s i n walks.Lost = UpTo dom s i n → ⊥
Tells over stop dom s i n walks.Matched = UpTo dom s i n
Tells over stop dom s i n (walks.At q l) = IsOn over dom s i n q l × IsStopped stop dom s q l

-- the compound at which a walk stopped
abbrev pub place_of : Walk → ℕ
place_of walks.Lost = 0
place_of walks.Matched = 0
place_of (walks.At q l) = q
