-- Which plain words clap takes, and what it makes of them.
use Rattle.std.proofs.Common.{◌≡◌, ◌∙◌, ℕ, true, false, ◌==◌, List, [], ◌∷◌, Some, None}
use Rattle.std.proofs.Common.{refl, sym, ap, codes, is_some}
use Rattle.std.specs.Prelude.{find, fold, option_map}
use Rattle.std.specs.Option.{option_map_or}
use Rattle.clap.specs.Faults.{fault_of, other_fault, level_fault, walk_fault, turn_fault, entered_fault, settle_fault}
use Rattle.clap.specs.Faults.{defaults_fault, check_fault, is_simple_and_free}
use Rattle.clap.specs.Kinds.{Kinds, or_else}
use Rattle.clap.specs.Walk.{idle, value, subcommand_or_other, Text, Walk, nothing_held, walked, walk, walk_from, answers_to}
use Rattle.clap.specs.Walk.{finished, settled}
use Rattle.clap.specs.Simple.{App, built, entered, is_simple, label_of, names_of, subcommand_of, rows_at}
use Rattle.clap.specs.declared.error.kind.ErrorKind.TheVariants as kind
use Rattle.clap.proofs.FaultLemmas.{past, stopped_fault, turn_is}
use Rattle.clap.proofs.WalkLemmas.{walk_stopped}
use Rattle.clap.proofs.OnLiterals.{clap_on_literals}
use Rattle.mc_words.specs.Grammar.{grammar, program}
use Rattle.mc_words.proofs.Leaves.{fault_other, leaf, met_other}

-- the program as it is built
abbrev pub made : App
made = record {
  top = record program.top { is_leaf = false; is_built = true };
  subs = leaf (codes "rows") 1 ∷ leaf (codes "rows-check") 2 ∷ leaf (codes "gen") 2 ∷ leaf (codes "trial") 2
      ∷ leaf (codes "layout") 5 ∷ leaf (codes "check") 6 ∷ leaf (codes "all") 5 ∷ leaf (codes "hit") 7 ∷ leaf (codes "draw") 6
      ∷ [];
}

built_is : built grammar ≡ made
unfolding grammar
built_is = refl

pub grammar_simple : is_simple grammar ≡ true
unfolding grammar
grammar_simple = refl

pub grammar_free : is_simple_and_free grammar ≡ true
unfolding grammar
grammar_free = refl

pub ruleset grammar_is = (grammar_simple, grammar_free)

abbrev begun : Walk
begun = walk_from nothing_held

-- the level of the program, by where the walk stands after the words
abbrev level : List Text → Walk → Kinds
level words w = or_else (walk_fault made.top (names_of made) begun words)
    (or_else (entered_fault made w.stopped) (or_else (settle_fault [] false w.held)
    (or_else (defaults_fault (settled [] w.held).rows [])
    (check_fault made.top (finished [] w.held) (is_some (entered made w.stopped))))))

fault_level : (words : List Text) → fault_of grammar words ≡ level words (walk [] (names_of made) nothing_held words)
unfolding grammar
fault_level words = refl

-- ---- the words after the name of a command

abbrev stopped_at : Text → List Text → Walk
stopped_at name words = record begun { stopped = Some (name, words) }

module _ (name : Text) (n : ℕ) (step : walked [] (names_of made) begun name ≡ stopped_at name [])
    (turn : turn_fault made.top (names_of made) begun name ≡ [])
    (here : find (λ s. answers_to name (label_of s)) made.subs ≡ Some (leaf name n)) where
  walk_is : (words : List Text) → walk [] (names_of made) nothing_held (name ∷ words) ≡ stopped_at name words
  walk_is words =
      ap (λ w. fold (walked [] (names_of made)) w words) step ∙ sym (walk_stopped [] (names_of made) begun name [] words)

  walk_passes : (words : List Text) → walk_fault made.top (names_of made) begun (name ∷ words) ≡ []
  unfolding walk_fault
  walk_passes words =
      past _ _ turn ∙ ap (λ w. walk_fault made.top (names_of made) w words) step
      ∙ stopped_fault made.top (names_of made) begun (name, []) words

  entered_is : (words : List Text) → entered made (Some (name, words)) ≡ Some (rows_at (leaf name n) words)
  entered_is words = ap (λ o. option_map (λ s. rows_at s words) o) here

  below_is : (words : List Text)
      → entered_fault made (Some (name, words)) ≡ level_fault (leaf name n) [] nothing_held words false []
  below_is words = ap (λ o. option_map_or (λ s. level_fault s [] nothing_held words false []) o []) here

  pub fault_is : (words : List Text)
      → fault_of grammar (name ∷ words) ≡ or_else (level_fault (leaf name n) [] nothing_held words false []) []
  unfolding defaults_fault
  fault_is words =
      fault_level (name ∷ words) ∙ ap (level (name ∷ words)) (walk_is words) ∙ past _ _ (walk_passes words)
      ∙ (λ i. or_else (below_is words i) (check_fault made.top [] (is_some (entered_is words i))))

  pub given_is : (words : List Text) → subcommand_of grammar (name ∷ words) ≡ Some (rows_at (leaf name n) words)
  unfolding grammar
  given_is words = ap (λ (w : Walk). entered made w.stopped) (walk_is words) ∙ entered_is words

-- ---- a first word that names no command

module _ (c : ℕ) (cs : Text) (plain : (c == 45) ≡ false) (unnamed : find (answers_to (c ∷ cs)) (names_of made) ≡ None) where
  stray : turn_fault made.top (names_of made) begun (c ∷ cs) ≡ kind.UnknownArgument ∷ kind.InvalidSubcommand ∷ []
  stray =
      let met = ap (λ o. subcommand_or_other [] (option_map (λ s. s.0) o) idle 1 (c ∷ cs) nothing_held) unnamed
      ∙ met_other c cs plain [] idle 1 nothing_held in
      let passed = ap (λ o. other_fault made.top (option_map (λ s. s.0) o) (c ∷ cs) nothing_held) unnamed
      ∙ fault_other c cs plain made.top nothing_held in
      sym (turn_is made.top (names_of made) begun (c ∷ cs) nothing_held value (sym met) passed)

  pub stray_fault : (words : List Text) → fault_of grammar ((c ∷ cs) ∷ words) ≡ kind.UnknownArgument ∷ kind.InvalidSubcommand ∷ []
  unfolding walk_fault
  stray_fault words =
      let all = (c ∷ cs) ∷ words in
      let w = walk [] (names_of made) nothing_held all in
      fault_level all
      ∙ ap (λ ks. or_else (or_else ks (walk_fault made.top (names_of made) (walked [] (names_of made) begun (c ∷ cs)) words))
      (or_else (entered_fault made w.stopped) (or_else (settle_fault [] false w.held)
      (or_else (defaults_fault (settled [] w.held).rows [])
      (check_fault made.top (finished [] w.held) (is_some (entered made w.stopped))))))) stray

pub nothing_fault : fault_of grammar [] ≡ kind.MissingSubcommand ∷ []
unfolding clap_on_literals grammar
nothing_fault = refl
