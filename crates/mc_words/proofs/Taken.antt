-- The words that clap takes are those that may be a command, and of others no command comes.
use Rattle.std.proofs.Common.{◌≡◌, ◌≢◌, ◌∙◌, ◌⊎◌, inl, inr, ℕ, Bool, true, false, ◌==◌, ◌||◌, List, [], ◌∷◌, length, Option}
use Rattle.std.proofs.Common.{Some, None}
use Rattle.std.proofs.Common.{refl, sym, ap, subst, arith, codes, true≢false}
use Rattle.std.proofs.lemmas.Bool.Decides.{eqb_tells}
use Rattle.std.proofs.lemmas.Slice.Eq.{bytes_eq-Decides}
use Rattle.std.proofs.Common.{Global}
use Rattle.std.specs.Box.{box_value}
use Rattle.std.specs.Prelude.{Box, String, find, if◌then◌else◌, map, option_map, string_bytes, ◌&&◌}
use Rattle.std.specs.List.{list_all}
use Rattle.std.specs.Str.{bytes_eq}
use Rattle.clap.specs.Faults.{fault_of, level_fault}
use Rattle.clap.specs.Kinds.{Kinds, or_else}
use Rattle.clap.specs.Matches.{found_of, matched_of, raw_values, subcommand_name_of}
use Rattle.clap.specs.Walk.{Row, Text, all_of, answers_to, nothing_held, rows_after, rows_of}
use Rattle.clap.specs.Simple.{names_of, rows_at, subcommand_of, subcommand_rows, subcommand_rows_of}
use Rattle.clap.specs.declared.parser.matches.ArgMatches.{ArgMatches}
use Rattle.clap.specs.declared.parser.matches.ArgMatches.TheViews.{out-ArgMatches, out-SubCommand}
use Rattle.clap.specs.declared.parser.matches.Found.{Found}
use Rattle.clap.specs.declared.parser.matches.SubCommand.{SubCommand}
use Rattle.clap.proofs.WalkLemmas.{raw_values-rows}
use Rattle.clap.specs.declared.error.kind.ErrorKind.TheVariants as kind
use Rattle.clap.proofs.OnLiterals.{clap_on_literals}
use Rattle.mc_words.specs.Grammar.{grammar}
use Rattle.mc_words.specs.Words.{Command, is_plain, check_of, command_named, command_of, draw_of, gen_of, hit_of, layout_of}
use Rattle.mc_words.specs.Words.{plain_command, plain_session, rows_check_of, session_of, trial_of}
use Rattle.mc_words.specs.Words.{all_of as whole_of, rows_of as flow_of}
use Rattle.mc_words.specs.Given.{Gives}
use Rattle.mc_words.proofs.Grammar.{fault_is, given_is, made, nothing_fault, stray_fault}
use Rattle.mc_words.proofs.Leaves.{Judges, judges_one, judges_several, leaf, plain_head}

-- these words are taken, with what they give; or they aren't, and they are no command
abbrev pub IsJudged : Text → List Text → Type 0
IsJudged name words = ((fault_of grammar (name ∷ words) ≡ []) × Gives (subcommand_of grammar (name ∷ words)) name words)
    ⊎ ((fault_of grammar (name ∷ words) ≡ [] → ⊥) × (command_named name words ≡ None))

-- ---- each command

-- a command that has no result with another count of words
abbrev Wants : (List Text → Option Command) → ℕ → Type 0
Wants command n = (words : List Text) → length words ≢ n → command words ≡ None

rows_wants : Wants flow_of 1
rows_wants [] apart = refl
rows_wants (a ∷ []) apart = absurd (apart refl)
rows_wants (a ∷ b ∷ words) apart = refl

gen_wants : Wants gen_of 2
gen_wants [] apart = refl
gen_wants (a ∷ []) apart = refl
gen_wants (a ∷ b ∷ []) apart = absurd (apart refl)
gen_wants (a ∷ b ∷ c ∷ words) apart = refl

trial_wants : Wants trial_of 2
trial_wants [] apart = refl
trial_wants (a ∷ []) apart = refl
trial_wants (a ∷ b ∷ []) apart = absurd (apart refl)
trial_wants (a ∷ b ∷ c ∷ words) apart = refl

layout_wants : Wants layout_of 5
layout_wants [] apart = refl
layout_wants (a ∷ []) apart = refl
layout_wants (a ∷ b ∷ []) apart = refl
layout_wants (a ∷ b ∷ c ∷ []) apart = refl
layout_wants (a ∷ b ∷ c ∷ d ∷ []) apart = refl
layout_wants (a ∷ b ∷ c ∷ d ∷ e ∷ []) apart = absurd (apart refl)
layout_wants (a ∷ b ∷ c ∷ d ∷ e ∷ f ∷ words) apart = refl

all_wants : Wants whole_of 5
all_wants [] apart = refl
all_wants (a ∷ []) apart = refl
all_wants (a ∷ b ∷ []) apart = refl
all_wants (a ∷ b ∷ c ∷ []) apart = refl
all_wants (a ∷ b ∷ c ∷ d ∷ []) apart = refl
all_wants (a ∷ b ∷ c ∷ d ∷ e ∷ []) apart = absurd (apart refl)
all_wants (a ∷ b ∷ c ∷ d ∷ e ∷ f ∷ words) apart = refl

hit_wants : Wants hit_of 7
hit_wants [] apart = refl
hit_wants (a ∷ []) apart = refl
hit_wants (a ∷ b ∷ []) apart = refl
hit_wants (a ∷ b ∷ c ∷ []) apart = refl
hit_wants (a ∷ b ∷ c ∷ d ∷ []) apart = refl
hit_wants (a ∷ b ∷ c ∷ d ∷ e ∷ []) apart = refl
hit_wants (a ∷ b ∷ c ∷ d ∷ e ∷ f ∷ []) apart = refl
hit_wants (a ∷ b ∷ c ∷ d ∷ e ∷ f ∷ g ∷ []) apart = absurd (apart refl)
hit_wants (a ∷ b ∷ c ∷ d ∷ e ∷ f ∷ g ∷ h ∷ words) apart = refl

draw_wants : Wants draw_of 6
draw_wants [] apart = refl
draw_wants (a ∷ []) apart = refl
draw_wants (a ∷ b ∷ []) apart = refl
draw_wants (a ∷ b ∷ c ∷ []) apart = refl
draw_wants (a ∷ b ∷ c ∷ d ∷ []) apart = refl
draw_wants (a ∷ b ∷ c ∷ d ∷ e ∷ []) apart = refl
draw_wants (a ∷ b ∷ c ∷ d ∷ e ∷ f ∷ []) apart = absurd (apart refl)
draw_wants (a ∷ b ∷ c ∷ d ∷ e ∷ f ∷ g ∷ words) apart = refl

check_wants : Wants check_of 6
check_wants [] apart = refl
check_wants (a ∷ []) apart = refl
check_wants (a ∷ b ∷ []) apart = refl
check_wants (a ∷ b ∷ c ∷ []) apart = refl
check_wants (a ∷ b ∷ c ∷ d ∷ []) apart = refl
check_wants (a ∷ b ∷ c ∷ d ∷ e ∷ []) apart = refl
check_wants (a ∷ b ∷ c ∷ d ∷ e ∷ f ∷ []) apart = absurd (apart refl)
check_wants (a ∷ b ∷ c ∷ d ∷ e ∷ f ∷ g ∷ words) apart = refl

rows_check_wants : Wants rows_check_of 2
rows_check_wants [] apart = refl
rows_check_wants (a ∷ []) apart = refl
rows_check_wants (a ∷ b ∷ []) apart = absurd (apart refl)
rows_check_wants (a ∷ b ∷ c ∷ words) apart = refl

-- what is said of a command's own words is said of all
judged : (name : Text) (n : ℕ) (words : List Text) → Judges name n words
    → fault_of grammar (name ∷ words) ≡ or_else (level_fault (leaf name n) [] nothing_held words false []) []
    → subcommand_of grammar (name ∷ words) ≡ Some (rows_at (leaf name n) words)
    → (length words ≢ n → command_named name words ≡ None) → IsJudged name words
judged name n words judges fault given wants = go (eqb_tells (length words) n)
  where
    alone : (ks : Kinds) → or_else ks [] ≡ [] → ks ≡ []
    alone [] e = refl
    alone (k ∷ ks) e = e

    go : (((length words == n) ≡ true) × (length words ≡ n)) ⊎ (((length words == n) ≡ false) × (length words ≢ n))
        → IsJudged name words
    go (inl whole) =
        let right = judges.right whole.1 in
        inl (fault ∙ ap (λ ks. or_else ks []) right.0, (rows_after (leaf name n).rules [] words, given, right.1))
    go (inr other) = inr (λ none. judges.wrong other.1 (alone _ (sym fault ∙ none)), wants other.1)

rows_judged : (words : List Text) → list_all is_plain words ≡ true → IsJudged (codes "rows") words
unfolding clap_on_literals
rows_judged words plain =
    judged (codes "rows") 1 words (judges_one (codes "rows") words plain) (fault_is (codes "rows") 1 refl refl refl words)
    (given_is (codes "rows") 1 refl refl refl words) (rows_wants words)

gen_judged : (words : List Text) → list_all is_plain words ≡ true → IsJudged (codes "gen") words
unfolding clap_on_literals
gen_judged words plain =
    judged (codes "gen") 2 words (judges_several (codes "gen") 2 refl refl refl (omega arith) words plain)
    (fault_is (codes "gen") 2 refl refl refl words) (given_is (codes "gen") 2 refl refl refl words) (gen_wants words)

trial_judged : (words : List Text) → list_all is_plain words ≡ true → IsJudged (codes "trial") words
unfolding clap_on_literals
trial_judged words plain =
    judged (codes "trial") 2 words (judges_several (codes "trial") 2 refl refl refl (omega arith) words plain)
    (fault_is (codes "trial") 2 refl refl refl words) (given_is (codes "trial") 2 refl refl refl words) (trial_wants words)

layout_judged : (words : List Text) → list_all is_plain words ≡ true → IsJudged (codes "layout") words
unfolding clap_on_literals
layout_judged words plain =
    judged (codes "layout") 5 words (judges_several (codes "layout") 5 refl refl refl (omega arith) words plain)
    (fault_is (codes "layout") 5 refl refl refl words) (given_is (codes "layout") 5 refl refl refl words) (layout_wants words)

all_judged : (words : List Text) → list_all is_plain words ≡ true → IsJudged (codes "all") words
unfolding clap_on_literals
all_judged words plain =
    judged (codes "all") 5 words (judges_several (codes "all") 5 refl refl refl (omega arith) words plain)
    (fault_is (codes "all") 5 refl refl refl words) (given_is (codes "all") 5 refl refl refl words) (all_wants words)

hit_judged : (words : List Text) → list_all is_plain words ≡ true → IsJudged (codes "hit") words
unfolding clap_on_literals
hit_judged words plain =
    judged (codes "hit") 7 words (judges_several (codes "hit") 7 refl refl refl (omega arith) words plain)
    (fault_is (codes "hit") 7 refl refl refl words) (given_is (codes "hit") 7 refl refl refl words) (hit_wants words)

draw_judged : (words : List Text) → list_all is_plain words ≡ true → IsJudged (codes "draw") words
unfolding clap_on_literals
draw_judged words plain =
    judged (codes "draw") 6 words (judges_several (codes "draw") 6 refl refl refl (omega arith) words plain)
    (fault_is (codes "draw") 6 refl refl refl words) (given_is (codes "draw") 6 refl refl refl words) (draw_wants words)

check_judged : (words : List Text) → list_all is_plain words ≡ true → IsJudged (codes "check") words
unfolding clap_on_literals
check_judged words plain =
    judged (codes "check") 6 words (judges_several (codes "check") 6 refl refl refl (omega arith) words plain)
    (fault_is (codes "check") 6 refl refl refl words) (given_is (codes "check") 6 refl refl refl words) (check_wants words)

rows_check_judged : (words : List Text) → list_all is_plain words ≡ true → IsJudged (codes "rows-check") words
unfolding clap_on_literals
rows_check_judged words plain =
    judged (codes "rows-check") 2 words (judges_several (codes "rows-check") 2 refl refl refl (omega arith) words plain)
    (fault_is (codes "rows-check") 2 refl refl refl words)
    (given_is (codes "rows-check") 2 refl refl refl words) (rows_check_wants words)

-- ---- any first word

-- neither way round
other_way : (a b : Text) → bytes_eq a b ≡ false → bytes_eq b a ≡ false
other_way a b apart = go (bytes_eq b a) refl
  where
    go : (t : Bool) → bytes_eq b a ≡ t → bytes_eq b a ≡ false
    go true e = absurd (true≢false (sym ((bytes_eq-Decides a b).1 (sym ((bytes_eq-Decides b a).0 e))) ∙ apart))
    go false e = e

by_name : (name : Text) (words : List Text) (own : Text)
    → ((words : List Text) → list_all is_plain words ≡ true → IsJudged own words)
    → list_all is_plain words ≡ true → (bytes_eq name own ≡ false → IsJudged name words) → IsJudged name words
by_name name words own here plain next = go (bytes_eq name own) refl
  where
    go : (t : Bool) → bytes_eq name own ≡ t → IsJudged name words
    go true e = subst (λ n. IsJudged n words) (sym ((bytes_eq-Decides name own).0 e)) (here words plain)
    go false e = next e

abbrev picked : (a b c d e f g h k : Bool) (words : List Text) → Option Command
picked a b c d e f g h k words =
    if a then flow_of words else (if b then rows_check_of words else (if c then gen_of words
    else (if d then trial_of words else (if e then layout_of words else (if f then check_of words
    else (if g then whole_of words else (if h then hit_of words else (if k then draw_of words else None))))))))

abbrev found : (a b c d e f g h k : Bool) → Option (Text × List Text)
found a b c d e f g h k =
    if a || false then Some (codes "rows", []) else (if b || false then Some (codes "rows-check", [])
    else (if c || false then Some (codes "gen", []) else (if d || false then Some (codes "trial", [])
    else (if e || false then Some (codes "layout", []) else (if f || false then Some (codes "check", [])
    else (if g || false then Some (codes "all", []) else (if h || false then Some (codes "hit", [])
    else (if k || false then Some (codes "draw", []) else None))))))))

unnamed : (c : ℕ) (cs : Text) (words : List Text) → (c == 45) ≡ false → bytes_eq (c ∷ cs) (codes "rows") ≡ false
    → bytes_eq (c ∷ cs) (codes "rows-check") ≡ false → bytes_eq (c ∷ cs) (codes "gen") ≡ false
    → bytes_eq (c ∷ cs) (codes "trial") ≡ false → bytes_eq (c ∷ cs) (codes "layout") ≡ false
    → bytes_eq (c ∷ cs) (codes "check") ≡ false → bytes_eq (c ∷ cs) (codes "all") ≡ false
    → bytes_eq (c ∷ cs) (codes "hit") ≡ false → bytes_eq (c ∷ cs) (codes "draw") ≡ false → IsJudged (c ∷ cs) words
unnamed c cs words plain e1 e2 e3 e4 e5 e6 e7 e8 e9 =
    let name = c ∷ cs in
    let none : find (answers_to name) (names_of made) ≡ None =
    λ i. found (other_way name (codes "rows") e1 i) (other_way name (codes "rows-check") e2 i)
    (other_way name (codes "gen") e3 i) (other_way name (codes "trial") e4 i) (other_way name (codes "layout") e5 i)
    (other_way name (codes "check") e6 i) (other_way name (codes "all") e7 i) (other_way name (codes "hit") e8 i)
    (other_way name (codes "draw") e9 i) in
    inr (
      λ ok. let bad : kind.UnknownArgument ∷ kind.InvalidSubcommand ∷ [] ≡ [] =
          sym (stray_fault c cs plain none words) ∙ ok in cc,
      λ i. picked (e1 i) (e2 i) (e3 i) (e4 i) (e5 i) (e6 i) (e7 i) (e8 i) (e9 i) words,
    )

pub words_judged : (name : Text) (words : List Text) → list_all is_plain (name ∷ words) ≡ true → IsJudged name words
words_judged [] words plain = absurd (true≢false (sym plain))
words_judged (c ∷ cs) words plain =
    let parts = plain_head c cs words plain in
    let name = c ∷ cs in
    by_name name words (codes "rows") rows_judged parts.1 (λ e1.
    by_name name words (codes "rows-check") rows_check_judged parts.1 (λ e2.
    by_name name words (codes "gen") gen_judged parts.1 (λ e3.
    by_name name words (codes "trial") trial_judged parts.1 (λ e4.
    by_name name words (codes "layout") layout_judged parts.1 (λ e5.
    by_name name words (codes "check") check_judged parts.1 (λ e6.
    by_name name words (codes "all") all_judged parts.1 (λ e7.
    by_name name words (codes "hit") hit_judged parts.1 (λ e8.
    by_name name words (codes "draw") draw_judged parts.1 (λ e9.
    unnamed c cs words parts.0 e1 e2 e3 e4 e5 e6 e7 e8 e9)))))))))

-- words with no fault are what their command says
pub plain_ok : (words : List Text) → list_all is_plain words ≡ true → fault_of grammar words ≡ []
    → (given : Option (Text × List Row)) → given ≡ subcommand_of grammar words → (o : Option Command)
    → ((name : Text) → (rest : List Text) → Gives given name rest → o ≡ command_named name rest) → o ≡ plain_command words
plain_ok [] plain none given same o says =
    let bad : kind.MissingSubcommand ∷ [] ≡ [] = sym nothing_fault ∙ none in cc
plain_ok (name ∷ words) plain none given same o says = go (words_judged name words plain)
  where
    go : IsJudged name words → o ≡ command_named name words
    go (inl taken) = says name words (subst (λ g. Gives g name words) (sym same) taken.1)
    go (inr other) = absurd (other.0 none)

-- and words with a fault are no command
pub plain_err : (words : List Text) → list_all is_plain words ≡ true → fault_of grammar words ≢ []
    → plain_command words ≡ None
plain_err [] plain some = refl
plain_err (name ∷ words) plain some = go (words_judged name words plain)
  where
    go : IsJudged name words → command_named name words ≡ None
    go (inl taken) = absurd (some taken.0)
    go (inr other) = other.1

-- ---- what a parse found

module _ {Z : Type 0} where
  name_given : (sub : Option (Box SubCommand Z)) (name : Text) (rows : List Row) → subcommand_rows sub ≡ Some (name, rows)
      → option_map (λ b. (out-SubCommand (box_value b)).name.now) sub ≡ Some name
  name_given None name rows e = absurd cc
  name_given (Some b) name rows e =
      let sub = out-SubCommand (box_value b) in
      let same : Some (sub.name.now, rows_of (found_of sub.matches)) ≡ Some (name, rows) = e in
      ap (λ o. option_map (λ (p : Text × List Row). p.0) o) same

some_same : {X : Type 0} (x y : X) → Some x ≡ Some y → x ≡ y
some_same x y e = cc

pub given_same : (m : ArgMatches) (name : Text) (words : List Text) (n : Text) (found : Found) (ws : List Text)
    → Gives (subcommand_rows_of m) name words → Some n ≡ subcommand_name_of m
    → Some (rows_of found) ≡ option_map (λ p. p.1) (subcommand_rows_of m)
    → Some ws ≡ option_map raw_values (matched_of found (codes "words")) → (n ≡ name) × (ws ≡ words)
given_same m name words n found ws gives named rows values =
    let its_rows : rows_of found ≡ gives.0 =
    some_same (rows_of found) gives.0 (rows ∙ ap (λ o. option_map (λ (p : Text × List Row). p.1) o) gives.1) in (
      some_same n name (named ∙ name_given (out-ArgMatches m).subcommand name gives.0 gives.1),
      some_same ws words
          (values ∙ raw_values-rows found (codes "words") ∙ ap (λ r. all_of (codes "words") r) its_rows ∙ gives.2),
    )

pub given_some : (m : ArgMatches) (name : Text) (words : List Text) (found : Found) → Gives (subcommand_rows_of m) name words
    → Some (rows_of found) ≡ option_map (λ p. p.1) (subcommand_rows_of m)
    → None ≡ option_map raw_values (matched_of found (codes "words")) → ⊥
given_some m name words found gives rows values =
    let its_rows : rows_of found ≡ gives.0 =
    some_same (rows_of found) gives.0 (rows ∙ ap (λ o. option_map (λ (p : Text × List Row). p.1) o) gives.1) in
    let bad : None ≡ Some words =
    values ∙ raw_values-rows found (codes "words") ∙ ap (λ r. all_of (codes "words") r) its_rows ∙ gives.2 in
    cc

-- ---- plain words

each_plain : (words : List (String Global))
    → list_all (λ word. is_plain (string_bytes word)) words ≡ list_all is_plain (map string_bytes words)
each_plain [] = refl
each_plain (word ∷ words) = ap (λ b. is_plain (string_bytes word) && b) (each_plain words)

pub all_plain : (words : List (String Global)) → list_all (λ word. is_plain (string_bytes word)) words ≡ true
    → list_all is_plain (map string_bytes words) ≡ true
all_plain words plain = sym (each_plain words) ∙ plain

pub not_taken : (words : List (String Global)) → list_all (λ word. is_plain (string_bytes word)) words ≡ false
    → command_of (map string_bytes words) ≡ None
not_taken words other =
    ap (λ b. if b then plain_command (map string_bytes words) else None) (sym (each_plain words) ∙ other)

pub is_plain_command : (words : List (String Global)) → list_all (λ word. is_plain (string_bytes word)) words ≡ true
    → command_of (map string_bytes words) ≡ plain_command (map string_bytes words)
is_plain_command words plain =
    ap (λ b. if b then plain_command (map string_bytes words) else None) (sym (each_plain words) ∙ plain)

pub ruleset word_lemmas = (all_plain, not_taken, is_plain_command)

-- ---- the words of a session

pub no_session : (words : List (String Global)) → list_all (λ word. is_plain (string_bytes word)) words ≡ false
    → session_of (map string_bytes words) ≡ None
no_session words other =
    ap (λ b. if b then plain_session (map string_bytes words) else None) (sym (each_plain words) ∙ other)

pub is_plain_session : (words : List (String Global)) → list_all (λ word. is_plain (string_bytes word)) words ≡ true
    → session_of (map string_bytes words) ≡ plain_session (map string_bytes words)
is_plain_session words plain =
    ap (λ b. if b then plain_session (map string_bytes words) else None) (sym (each_plain words) ∙ plain)

pub ruleset session_lemmas = (no_session, is_plain_session)
