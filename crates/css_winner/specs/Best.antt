-- The best that was found for each property, by its place in the two tables.
use Rattle.std.specs.Prelude.{◌≡◌, ◌<◌, ℕ, Bool, true, false, if◌then◌else◌, List, Option, Some, None, MatchOption}
use Rattle.std.specs.Prelude.{slice_index_or, slice_set, length}
use Rattle.std.specs.Option.{option_map}
use Rattle.css_values.specs.Targets.{target_place}
use Rattle.css_winner.specs.declared.best.Offer.{Offer}
use Rattle.css_winner.specs.Among.{Among}
use Rattle.css_winner.specs.Precedences.{is_above}
use Rattle.css_winner.specs.Applying.{Claim}

abbrev pub claim_of : Offer → Claim
claim_of offer =
    record { precedence = offer.precedence; target = offer.setting.now.target; given = offer.setting.now.given }

abbrev pub is_better : Offer → Option Offer → Bool
is_better offer None = true
is_better offer (Some held) = is_above offer.precedence held.precedence

abbrev pub place_of : Offer → ℕ
place_of offer = target_place offer.setting.now.target

-- what was found with one more offer
abbrev pub kept : List (Option Offer) → Offer → List (Option Offer)
kept best offer =
    if is_better offer (slice_index_or best (place_of offer) None) then slice_set best (place_of offer) (Some offer) else best

-- among these claims, one at this place such that none there comes above it
pub record IsGreatest (seen : List Claim) (place : ℕ) (claim : Claim) : Type 0 where
  pub among : Among seen claim
  pub there : target_place claim.target ≡ place
  pub greatest : (other : Claim) → Among seen other → target_place other.target ≡ place
      → is_above other.precedence claim.precedence ≡ false

abbrev pub NoneAt : List Claim → ℕ → Type 0
NoneAt seen place = (claim : Claim) → Among seen claim → target_place claim.target ≡ place → ⊥

abbrev pub IsBestAt : List Claim → ℕ → Option Claim → Type 0
IsBestAt seen place held = MatchOption held (NoneAt seen place) (λ claim. IsGreatest seen place claim)

abbrev pub found_at : List (Option Offer) → ℕ → Option Claim
found_at best place = option_map claim_of (slice_index_or best place None)

-- at each of the 60 places stands the greatest of these claims
pub record IsBest (seen : List Claim) (best : List (Option Offer)) : Type 0 where
  pub size : length best ≡ 60
  pub each : (place : ℕ) → place < 60 → IsBestAt seen place (found_at best place)
