-- The parts of a container's content, by the places where spanners begin and end (CSS Multi-column 1, section 6: what
-- stands before, between and after spanners is laid out in columns of its own).
use Rattle.std.specs.Prelude.{◌≡◌, ℕ, ◌-◌, ◌<◌, ◌⊎◌, Bool, true, false, ◌||◌, List, [], ◌∷◌, ◌++◌, fold, get_or, length, take}
use Rattle.spanner_split.specs.declared.event.Event.{Event}
use Rattle.spanner_split.specs.declared.event.Event.TheVariants.{Open, Close, Piece, SpanOpen, SpanClose}
use Rattle.spanner_split.specs.declared.event.Part.{Part}

-- event k, from 0
abbrev pub event_at : List Event → ℕ → Event
event_at events k = get_or events k (Piece 0)

abbrev pub is_open : Event → Bool
is_open (Open box) = true
is_open (Close box) = false
is_open (Piece item) = false
is_open (SpanOpen box) = false
is_open (SpanClose box) = false

abbrev pub is_close : Event → Bool
is_close (Open box) = false
is_close (Close box) = true
is_close (Piece item) = false
is_close (SpanOpen box) = false
is_close (SpanClose box) = false

abbrev pub is_span_open : Event → Bool
is_span_open (Open box) = false
is_span_open (Close box) = false
is_span_open (Piece item) = false
is_span_open (SpanOpen box) = true
is_span_open (SpanClose box) = false

abbrev pub is_span_close : Event → Bool
is_span_close (Open box) = false
is_span_close (Close box) = false
is_span_close (Piece item) = false
is_span_close (SpanOpen box) = false
is_span_close (SpanClose box) = true

-- a spanner begins at event k, or has ended with the event before it
abbrev pub is_border : List Event → ℕ → Bool
is_border events k = is_span_open (event_at events k) || is_span_close (event_at events (k - 1))

-- the boxes that are open after one more event, from outside inwards: a box that begins is the innermost, and a box that
-- ends was
abbrev pub boxes_after : List ℕ → Event → List ℕ
boxes_after boxes (Open box) = boxes ++ box ∷ []
boxes_after boxes (Close box) = take (length boxes - 1) boxes
boxes_after boxes (Piece item) = boxes
boxes_after boxes (SpanOpen box) = boxes
boxes_after boxes (SpanClose box) = boxes

-- the boxes that are open where event k stands
abbrev pub boxes_at : List Event → ℕ → List ℕ
boxes_at events k = fold boxes_after [] (take k events)

-- A part of the content: it has an event, and reaches to the next border or to the end. It is a spanner where one begins
-- there. A void stands before the first end of a box that no item of the part precedes, and after the last beginning of a
-- box that no item of the part follows: as no box ends right after its beginning, these are ends that stand first and
-- beginnings that stand last.
pub record IsPart (events : List Event) (part : Part) : Type 0 where
  pub some : part.from < part.to
  pub whole : (k : ℕ) → part.from < k → k < part.to → is_border events k ≡ false
  pub ends : (part.to ≡ length events) ⊎ (is_border events part.to ≡ true)
  pub spanner : part.spanner ≡ is_span_open (event_at events part.from)
  pub opened : part.opened ≡ boxes_at events part.from
  pub lead : part.lead ≡ is_close (event_at events part.from)
  pub trail : part.trail ≡ is_open (event_at events (part.to - 1))

-- from one place to another the content is cut into these parts
abbrev pub IsCut : List Event → ℕ → List Part → ℕ → Type 0
IsCut events from [] to = from ≡ to
IsCut events from (part ∷ parts) to = (part.from ≡ from) × IsPart events part × IsCut events part.to parts to
