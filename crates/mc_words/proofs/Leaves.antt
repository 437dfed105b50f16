-- What clap makes of the words after the name of a command, all of them plain.
use Rattle.std.proofs.Common.{◌≡◌, ◌≢◌, ◌∙◌, ℕ, Bool, true, false, not, ◌==◌, ◌&&◌, ◌||◌, List, [], ◌∷◌, ◌++◌, length, min}
use Rattle.std.proofs.Common.{Some, None}
use Rattle.std.proofs.Common.{refl, sym, ap, ap₂, subst, arith, codes, true≢false, append_assoc}
use Rattle.std.proofs.lemmas.List.{append-nil}
use Rattle.std.proofs.lemmas.Bool.{ne_eqb}
use Rattle.std.specs.Prelude.{fold, nat_lt, if◌then◌else◌, option_and_then}
use Rattle.std.specs.List.{list_all}
use Rattle.std.specs.Option.{option_map_or}
use Rattle.std.specs.Str.{bytes_eq}
use Rattle.clap.specs.Faults.{level_fault, walk_fault, turn_fault, word_fault, flag_word_fault, bundle_fault, settle_fault}
use Rattle.clap.specs.Faults.{defaults_fault, check_fault, use_fault}
use Rattle.clap.specs.Kinds.{Kinds, or_else, range_kinds, values_kinds}
use Rattle.clap.specs.Lexer.{long_of, long_of_rest, short_of, short_of_rest, strip_byte, usize_max}
use Rattle.clap.specs.Walk.{Held, Rule, Step, Text, Walk, Waiting, idle, positional, nothing_held, trailing, value, walked}
use Rattle.clap.specs.Walk.{walk, walk_from}
use Rattle.clap.specs.Walk.{after_step, all_of, finished, is_pending, long_or_other, pushed, rows_after, settled, short_or_plain}
use Rattle.clap.specs.Walk.{takes_several, word_met}
use Rattle.clap.specs.Simple.{Shape}
use Rattle.clap.specs.declared.builder.action.ArgAction.TheVariants.{Set}
use Rattle.clap.specs.declared.builder.value_parser.ValueParser.TheVariants as vp
use Rattle.clap.specs.declared.error.kind.ErrorKind.TheVariants as kind
use Rattle.clap.proofs.FaultLemmas.{past, turn_is}
use Rattle.clap.proofs.SimpleLemmas.{is_false}
use Rattle.clap.proofs.WalkLemmas.{both}
use Rattle.mc_words.specs.Grammar.{counted, counted_rule}
use Rattle.mc_words.specs.Words.{is_plain}

-- ---- a command as it is built

abbrev pub built_rule : ℕ → Rule
built_rule n = record (counted_rule n) { action = Some Set; index = Some 1; parser = Some vp.String }

abbrev pub leaf : Text → ℕ → Shape
leaf name n = record (counted name n) {
  rules = built_rule n ∷ [];
  no_binary_name = true;
  disable_help_flag = true;
  disable_help_subcommand = true;
  disable_version_flag = true;
  is_built = true;
}

-- ---- a plain word

module _ (c : ℕ) (cs : Text) (other : (c == 45) ≡ false) where
  not_dashes : bytes_eq (c ∷ cs) (45 ∷ 45 ∷ []) ≡ false
  not_dashes = ap (λ b. b && bytes_eq cs (45 ∷ [])) other

  not_long : long_of (c ∷ cs) ≡ None
  not_long = ap (λ b. option_and_then long_of_rest (option_and_then (strip_byte 45) (if b then Some cs else None))) other

  not_short : short_of (c ∷ cs) ≡ None
  not_short = ap (λ b. option_and_then short_of_rest (if b then Some cs else None)) other

  pub met_other : (rules : List Rule) (waiting : Waiting) (at : ℕ) (h : Held) →
      (if bytes_eq (c ∷ cs) (45 ∷ 45 ∷ []) then (h, trailing at) else long_or_other rules waiting (c ∷ cs) (long_of (c ∷ cs)) h)
      ≡ short_or_plain rules waiting (c ∷ cs) None h
  met_other rules waiting at h =
      ap (λ b. if b then (h, trailing at) else long_or_other rules waiting (c ∷ cs) (long_of (c ∷ cs)) h) not_dashes
      ∙ ap (λ o. long_or_other rules waiting (c ∷ cs) o h) not_long
      ∙ ap (λ o. short_or_plain rules waiting (c ∷ cs) o h) not_short

  pub idle_met : (rules : List Rule) (at : ℕ) (h : Held) → word_met rules [] false idle at (c ∷ cs) h ≡ (h, value)
  idle_met rules at h = met_other rules idle at h

  pub later_met : (rules : List Rule) (at : ℕ) (h : Held) → word_met rules [] false positional at (c ∷ cs) h ≡ (h, value)
  later_met rules at h = met_other rules positional at h

  pub fault_other : (s : Shape) (h : Held) →
      (if bytes_eq (c ∷ cs) (45 ∷ 45 ∷ []) then []
      else flag_word_fault s.rules s.args_override_self (long_of (c ∷ cs)) (c ∷ cs) h) ≡ []
  fault_other s h =
      ap (λ b. if b then [] else flag_word_fault s.rules s.args_override_self (long_of (c ∷ cs)) (c ∷ cs) h) not_dashes
      ∙ ap (λ o. flag_word_fault s.rules s.args_override_self o (c ∷ cs) h) not_long
      ∙ ap (λ o. option_map_or (λ flags. bundle_fault s.rules s.args_override_self flags h) o []) not_short

  pub idle_fault : (s : Shape) (h : Held) → word_fault s [] false idle (c ∷ cs) h ≡ []
  idle_fault s h = fault_other s h

  pub later_fault : (s : Shape) (h : Held) → word_fault s [] false positional (c ∷ cs) h ≡ []
  later_fault s h = fault_other s h

pub plain_head : (c : ℕ) (cs : Text) (words : List Text) → list_all is_plain ((c ∷ cs) ∷ words) ≡ true
    → ((c == 45) ≡ false) × (list_all is_plain words ≡ true)
plain_head c cs words plain =
    let parts = both (not (c == 45)) (list_all is_plain words) plain in
    (is_false (c == 45) parts.0, parts.1)

-- ---- the walk, where the command takes several words

-- where it stands after these words
abbrev state : List Text → Walk
state [] = walk_from nothing_held
state (x ∷ xs) = record {
  held = record { rows = []; pending = Some (codes "words", x ∷ xs); skip = 0 };
  waiting = positional;
  position = 1;
  is_trailing = false;
  stopped = None;
}

-- the walk after one more word, by whether the command takes several
abbrev went : ℕ → Held → Text → Bool → Walk
went n h word several = record {
  held = pushed (codes "words") word
      (if is_pending (built_rule n) h.pending && several then h else settled (built_rule n ∷ []) h);
  waiting = if several || false then positional else idle;
  position = if several || false then 1 else min 2 usize_max;
  is_trailing = false;
  stopped = None;
}

module _ (name : Text) (n : ℕ) (several : takes_several (built_rule n) ≡ true) where
  step_is : (seen : List Text) (c : ℕ) (cs : Text) → (c == 45) ≡ false
      → walked (built_rule n ∷ []) [] (state seen) (c ∷ cs) ≡ state (seen ++ (c ∷ cs) ∷ [])
  unfolding walked
  step_is [] c cs other =
      ap (λ (p : Held × Step). after_step (built_rule n ∷ []) (c ∷ cs) (state []) p.0 p.1)
      (idle_met c cs other (built_rule n ∷ []) 1 nothing_held)
      ∙ ap (went n nothing_held (c ∷ cs)) several
  step_is (x ∷ xs) c cs other =
      ap (λ (p : Held × Step). after_step (built_rule n ∷ []) (c ∷ cs) (state (x ∷ xs)) p.0 p.1)
      (later_met c cs other (built_rule n ∷ []) 1 (state (x ∷ xs)).held)
      ∙ ap (went n (state (x ∷ xs)).held (c ∷ cs)) several

  turn_passes : (seen : List Text) (c : ℕ) (cs : Text) → (c == 45) ≡ false
      → turn_fault (leaf name n) [] (state seen) (c ∷ cs) ≡ []
  turn_passes [] c cs other =
      sym
      (turn_is (leaf name n) [] (state []) (c ∷ cs) nothing_held value
      (sym (idle_met c cs other (built_rule n ∷ []) 1 nothing_held))
      (idle_fault c cs other (leaf name n) nothing_held))
  turn_passes (x ∷ xs) c cs other =
      sym
      (turn_is (leaf name n) [] (state (x ∷ xs)) (c ∷ cs) (state (x ∷ xs)).held value
      (sym (later_met c cs other (built_rule n ∷ []) 1 (state (x ∷ xs)).held))
      (later_fault c cs other (leaf name n) (state (x ∷ xs)).held))
      ∙ ap (λ b. if b then [] else settle_fault (built_rule n ∷ []) false (state (x ∷ xs)).held) several

  walk_all : (seen words : List Text) → list_all is_plain words ≡ true
      → fold (walked (built_rule n ∷ []) []) (state seen) words ≡ state (seen ++ words)
  walk_all seen [] plain = ap state (sym (append-nil seen))
  walk_all seen ([] ∷ words) plain = absurd (true≢false (sym plain))
  walk_all seen ((c ∷ cs) ∷ words) plain =
      let parts = plain_head c cs words plain in
      ap (λ w. fold (walked (built_rule n ∷ []) []) w words) (step_is seen c cs parts.0)
      ∙ walk_all (seen ++ (c ∷ cs) ∷ []) words parts.1 ∙ ap state (append_assoc seen ((c ∷ cs) ∷ []) words)

  all_pass : (seen words : List Text) → list_all is_plain words ≡ true → walk_fault (leaf name n) [] (state seen) words ≡ []
  unfolding walk_fault
  all_pass seen [] plain = refl
  all_pass seen ([] ∷ words) plain = absurd (true≢false (sym plain))
  all_pass seen ((c ∷ cs) ∷ words) plain =
      let parts = plain_head c cs words plain in
      past _ _ (turn_passes seen c cs parts.0)
      ∙ ap (λ w. walk_fault (leaf name n) [] w words) (step_is seen c cs parts.0)
      ∙ all_pass (seen ++ (c ∷ cs) ∷ []) words parts.1

-- ---- after the walk

abbrev end_fault : Shape → Held → Kinds
end_fault s h = or_else (settle_fault s.rules s.args_override_self h)
    (or_else (defaults_fault (settled s.rules h).rows s.rules) (check_fault s (finished s.rules h) false))

texts_pass : (words : List Text) → values_kinds false vp.String words ≡ []
texts_pass [] = refl
texts_pass (x ∷ xs) = texts_pass xs

end_with : (name : Text) (n : ℕ) (x : Text) (xs : List Text)
    → end_fault (leaf name n) (state (x ∷ xs)).held ≡ or_else (range_kinds n n (length (x ∷ xs))) []
unfolding defaults_fault
end_with name n x xs =
    let once : use_fault false (built_rule n) (x ∷ xs) [] ≡ or_else (range_kinds n n (length (x ∷ xs))) [] =
    ap (λ ks. or_else (range_kinds n n (length (x ∷ xs))) ks) (texts_pass (x ∷ xs)) in
    ap (λ ks. or_else ks []) once ∙ twice (range_kinds n n (length (x ∷ xs)))
  where
    twice : (ks : Kinds) → or_else (or_else ks []) [] ≡ or_else ks []
    twice [] = refl
    twice (k ∷ ks) = refl

end_without : (name : Text) (n : ℕ) → end_fault (leaf name n) nothing_held ≡ kind.MissingRequiredArgument ∷ []
unfolding defaults_fault
end_without name n = refl

-- ---- all of it

level_is : (name : Text) (n : ℕ) (words : List Text) → takes_several (built_rule n) ≡ true → list_all is_plain words ≡ true
    → level_fault (leaf name n) [] nothing_held words false [] ≡ end_fault (leaf name n) (state words).held
level_is name n words several plain =
    past _ _ (all_pass name n several [] words plain)
    ∙ ap (λ (w : Walk). end_fault (leaf name n) w.held) (walk_all name n several [] words plain)

abbrev ranged : ℕ → ℕ → Bool → Bool → Bool → Kinds
ranged n m empty whole here =
    if empty then kind.InvalidValue ∷ [] else (if whole then (if here then [] else kind.WrongNumberOfValues ∷ [])
    else (if nat_lt m n then kind.TooFewValues ∷ [] else (if nat_lt n m then kind.TooManyValues ∷ [] else [])))

other_count : (n m : ℕ) → n ≢ m → (n == n) ≡ true → or_else (range_kinds n n m) [] ≡ [] → ⊥
other_count n m apart same none =
    go (nat_lt 0 n && m == 0)
    (subst (λ ks. or_else ks [] ≡ [])
    (ap₂ (λ a b. ranged n m (nat_lt 0 n && m == 0) a b) same (ne_eqb n m apart)) none)
  where
    go : (empty : Bool) → or_else (ranged n m empty true false) [] ≡ [] → ⊥
    go true e = cc
    go false e = cc

-- the values of these words
abbrev pub Holds : Text → ℕ → List Text → Type 0
Holds name n words = all_of (codes "words") (rows_after (leaf name n).rules [] words) ≡ Some words

-- as many words as the command takes are read, and no other count is
pub record Judges (name : Text) (n : ℕ) (words : List Text) : Type 0 where
  pub right : length words ≡ n → (level_fault (leaf name n) [] nothing_held words false [] ≡ []) × Holds name n words
  pub wrong : length words ≢ n → level_fault (leaf name n) [] nothing_held words false [] ≡ [] → ⊥

-- a count of two or more
module _ (name : Text) (n : ℕ) (several : takes_several (built_rule n) ≡ true) (same : (n == n) ≡ true)
    (whole : or_else (range_kinds n n n) [] ≡ []) (some : n ≢ 0) where
  several_right : (words : List Text) → list_all is_plain words ≡ true → length words ≡ n
      → (level_fault (leaf name n) [] nothing_held words false [] ≡ []) × Holds name n words
  several_right [] plain is = absurd (some (sym is))
  several_right (x ∷ xs) plain is = (
    level_is name n (x ∷ xs) several plain ∙ end_with name n x xs ∙ ap (λ m. or_else (range_kinds n n m) []) is ∙ whole,
    ap (λ (w : Walk). all_of (codes "words") (finished (built_rule n ∷ []) w.held)) (walk_all name n several [] (x ∷ xs) plain),
  )

  several_wrong : (words : List Text) → list_all is_plain words ≡ true → length words ≢ n
      → level_fault (leaf name n) [] nothing_held words false [] ≡ [] → ⊥
  several_wrong [] plain apart none =
      let bad : kind.MissingRequiredArgument ∷ [] ≡ [] =
      sym (level_is name n [] several plain ∙ end_without name n) ∙ none in
      cc
  several_wrong (x ∷ xs) plain apart none =
      other_count n (length (x ∷ xs)) (λ e. apart (sym e)) same
      (sym (level_is name n (x ∷ xs) several plain ∙ end_with name n x xs) ∙ none)

  pub judges_several : (words : List Text) → list_all is_plain words ≡ true → Judges name n words
  judges_several words plain =
      record { right = several_right words plain; wrong = several_wrong words plain }

-- one word
abbrev one : Text → Walk
one word = record {
  held = record { rows = []; pending = Some (codes "words", word ∷ []); skip = 0 };
  waiting = idle;
  position = 2;
  is_trailing = false;
  stopped = None;
}

one_step : (c : ℕ) (cs : Text) → (c == 45) ≡ false
    → walked (built_rule 1 ∷ []) [] (walk_from nothing_held) (c ∷ cs) ≡ one (c ∷ cs)
unfolding walked
one_step c cs other =
    ap (λ (p : Held × Step). after_step (built_rule 1 ∷ []) (c ∷ cs) (walk_from nothing_held) p.0 p.1)
    (idle_met c cs other (built_rule 1 ∷ []) 1 nothing_held)

one_turn : (name : Text) (c : ℕ) (cs : Text) → (c == 45) ≡ false
    → turn_fault (leaf name 1) [] (walk_from nothing_held) (c ∷ cs) ≡ []
one_turn name c cs other =
    sym
    (turn_is (leaf name 1) [] (walk_from nothing_held) (c ∷ cs) nothing_held value
    (sym (idle_met c cs other (built_rule 1 ∷ []) 1 nothing_held)) (idle_fault c cs other (leaf name 1) nothing_held))

next_turn : (name seen : Text) (c : ℕ) (cs : Text) → (c == 45) ≡ false
    → turn_fault (leaf name 1) [] (one seen) (c ∷ cs) ≡ kind.UnknownArgument ∷ []
next_turn name seen c cs other =
    sym
    (turn_is (leaf name 1) [] (one seen) (c ∷ cs) (one seen).held value
    (sym (idle_met c cs other (built_rule 1 ∷ []) 2 (one seen).held)) (idle_fault c cs other (leaf name 1) (one seen).held))

first_word : (name : Text) (c : ℕ) (cs : Text) (words : List Text) → (c == 45) ≡ false
    → walk_fault (leaf name 1) [] (walk_from nothing_held) ((c ∷ cs) ∷ words) ≡ walk_fault (leaf name 1) [] (one (c ∷ cs)) words
unfolding walk_fault
first_word name c cs words other =
    past _ _ (one_turn name c cs other) ∙ ap (λ w. walk_fault (leaf name 1) [] w words) (one_step c cs other)

next_word : (name seen : Text) (c : ℕ) (cs : Text) (words : List Text) → (c == 45) ≡ false
    → walk_fault (leaf name 1) [] (one seen) ((c ∷ cs) ∷ words) ≡ kind.UnknownArgument ∷ []
unfolding walk_fault
next_word name seen c cs words other =
    ap (λ ks. or_else ks (walk_fault (leaf name 1) [] (walked (built_rule 1 ∷ []) [] (one seen) (c ∷ cs)) words))
    (next_turn name seen c cs other)

no_word : (name : Text) (seen : Text) → walk_fault (leaf name 1) [] (one seen) [] ≡ []
unfolding walk_fault
no_word name seen = refl

one_end : (name : Text) (seen : Text) → end_fault (leaf name 1) (one seen).held ≡ []
unfolding defaults_fault
one_end name seen = refl

none_end : (name : Text) → level_fault (leaf name 1) [] nothing_held [] false [] ≡ kind.MissingRequiredArgument ∷ []
unfolding defaults_fault walk_fault
none_end name = refl

one_right : (name : Text) (words : List Text) → list_all is_plain words ≡ true → length words ≡ 1
    → (level_fault (leaf name 1) [] nothing_held words false [] ≡ []) × Holds name 1 words
one_right name [] plain is = absurd (omega (arith, is))
one_right name ([] ∷ words) plain is = absurd (true≢false (sym plain))
one_right name ((c ∷ cs) ∷ []) plain is =
    let other = (plain_head c cs [] plain).0 in (
      past _ _ (first_word name c cs [] other ∙ no_word name (c ∷ cs))
          ∙ ap (λ (w : Walk). end_fault (leaf name 1) w.held) (one_step c cs other) ∙ one_end name (c ∷ cs),
      ap (λ (w : Walk). all_of (codes "words") (finished (built_rule 1 ∷ []) w.held)) (one_step c cs other),
    )
one_right name ((c ∷ cs) ∷ other ∷ words) plain is = absurd (omega (arith, is))

one_wrong : (name : Text) (words : List Text) → list_all is_plain words ≡ true → length words ≢ 1
    → level_fault (leaf name 1) [] nothing_held words false [] ≡ [] → ⊥
one_wrong name [] plain apart none = let bad : kind.MissingRequiredArgument ∷ [] ≡ [] = sym (none_end name) ∙ none in cc
one_wrong name ([] ∷ words) plain apart none = absurd (true≢false (sym plain))
one_wrong name (word ∷ []) plain apart none = apart refl
one_wrong name ((c ∷ cs) ∷ [] ∷ words) plain apart none =
    absurd (true≢false (sym (plain_head c cs ([] ∷ words) plain).1))
one_wrong name ((c ∷ cs) ∷ (d ∷ ds) ∷ words) plain apart none =
    let here = plain_head c cs ((d ∷ ds) ∷ words) plain in
    let next = plain_head d ds words here.1 in
    let walk_is = first_word name c cs ((d ∷ ds) ∷ words) here.0 ∙ next_word name (c ∷ cs) d ds words next.0 in
    let bad : kind.UnknownArgument ∷ [] ≡ [] =
    sym (ap (λ ks. or_else ks (end_after ((c ∷ cs) ∷ (d ∷ ds) ∷ words))) walk_is) ∙ none in
    cc
  where
    end_after : List Text → Kinds
    end_after words = end_fault (leaf name 1) (walk (built_rule 1 ∷ []) [] nothing_held words).held

pub judges_one : (name : Text) (words : List Text) → list_all is_plain words ≡ true → Judges name 1 words
judges_one name words plain = record { right = one_right name words plain; wrong = one_wrong name words plain }
