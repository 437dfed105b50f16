-- What a command comes to, by what was read and what came of it.
use Rattle.std.proofs.Common.{◌≡◌, ◌≢◌, ◌⊎◌, inl, inr, ℕ, ◌<◌, ◌≤◌, List, [], Option, Some, refl, subst, sym}
use Rattle.std.proofs.lemmas.Bool.{cases_lt}
use Rattle.mc_base.specs.declared.refusal.Input.TheVariants.{Document, Sheet, Metrics, Flow}
use Rattle.mc_base.specs.declared.refusal.Refusal.{Refusal}
use Rattle.mc_base.specs.declared.refusal.LimitName.TheVariants.{Paragraphs}
use Rattle.mc_base.specs.declared.refusal.Refusal.TheVariants.{Limit, NoMemory}
use Rattle.mc_run.specs.declared.stop.Stop.{Stop}
use Rattle.mc_run.specs.declared.stop.Stop.TheVariants.{Usage, Read, Write, Refused}
use Rattle.mc_run.specs.AllResult.{IsAllResult, RefusesAll}
use Rattle.mc_run.specs.Trial.{IsTrial, RefusesTrial}
use Rattle.mc_run.specs.FlowResult.{IsFlowResult, RefusesBytes, IsPageView, RefusesPageView}
use Rattle.mc_run.specs.Viewed.{view_text, page_command}
use Rattle.mc_run.specs.declared.pages.View.{View}
use Rattle.mc_run.specs.declared.pages.View.TheVariants.{Tree, Point, Drawing}
use Rattle.mc_run.specs.Inputs.{AreHeld, AreShort, HasFault, IsTooLong, OnlyThese, byte_limit, page_texts, reads}
use Rattle.mc_run.specs.Outcome.{Gives, IsCause, Denies, Yields}
use Rattle.mc_run.specs.Reading.{IsReadCause, IsReadingCause, IsContent}
use Rattle.mc_words.specs.Words.{Command, Page, rows, gen, trial, all}
use Rattle.mc_run.proofs.Reading.{long_bytes, texts}

-- ---- a flow file

pub flow_unread : (flow : List ℕ) (held : List ℕ → Option (List ℕ)) (before now : List ℕ → ℕ) (stop : Stop)
    → IsReadCause (record { input = Flow; name = flow }) held before now stop
    → IsCause (Some (rows flow)) held before now 0 0 stop
flow_unread flow held before now Usage cause = absurd cause
flow_unread flow held before now (Read input) cause = inl cause
flow_unread flow held before now Write cause = absurd cause
flow_unread flow held before now (Refused refusal) (inl none) = inl none
flow_unread flow held before now (Refused refusal) (inr (is, over)) =
    let long = long_bytes (held flow) (byte_limit Flow) over in
    inr (λ _. long.0, (long.1, tt), inl (inl (long.2, is)))

pub flow_result : (flow : List ℕ) (held : List ℕ → Option (List ℕ)) (bytes text : List ℕ)
    → IsContent (record { input = Flow; name = flow }) held bytes → IsFlowResult bytes text → Gives (Some (rows flow)) held text
flow_result flow held bytes text content is = (λ _. bytes, (content.1, tt), ((content.0, tt), is))

pub flow_refused : (flow : List ℕ) (held : List ℕ → Option (List ℕ)) (before now : List ℕ → ℕ) (bytes : List ℕ)
    (refusal : Refusal) → IsContent (record { input = Flow; name = flow }) held bytes
    → (refusal ≡ NoMemory) ⊎ RefusesBytes bytes refusal → IsCause (Some (rows flow)) held before now 0 0 (Refused refusal)
flow_refused flow held before now bytes refusal content (inl none) = inl none
flow_refused flow held before now bytes refusal content (inr refused) =
    inr (λ _. bytes, (content.1, tt), inr ((content.0, tt), refused))

pub flow_alone : (flow : List ℕ) (before now : List ℕ → ℕ) → ((name : List ℕ) → name ≢ flow → now name ≡ before name)
    → OnlyThese before now (reads (rows flow))
flow_alone flow before now others name apart = others name (λ same. apart.0 (sym same))

-- ---- a document

-- these are what a document, a style sheet and a table of metrics hold
pub record AreContents (document sheet metrics : List ℕ) (held : List ℕ → Option (List ℕ)) (d s m : List ℕ) : Type 0 where
  pub document_is : IsContent (record { input = Document; name = document }) held d
  pub sheet_is : IsContent (record { input = Sheet; name = sheet }) held s
  pub metrics_is : IsContent (record { input = Metrics; name = metrics }) held m

-- a command that reads these three and no more
module _ (command : Command) (page : Page) (same : page_texts page ≡ reads command) where
  pub page_unread : (held : List ℕ → Option (List ℕ)) (before now : List ℕ → ℕ) (stop : Stop)
      → IsReadingCause (page_texts page) held before now stop → IsCause (Some command) held before now 0 0 stop
  page_unread held before now Usage cause = absurd cause
  page_unread held before now (Read input) cause = subst (λ inputs. HasFault before now inputs input) same cause
  page_unread held before now Write cause = absurd cause
  page_unread held before now (Refused refusal) (inl none) = inl none
  page_unread held before now (Refused refusal) (inr (contents, are, long)) =
      inr (
        contents,
        subst (λ inputs. AreHeld held contents inputs) same are,
        inl (subst (λ inputs. IsTooLong contents inputs refusal) same long),
      )

  pub page_text : (held : List ℕ → Option (List ℕ)) (d s m text : List ℕ)
      → AreContents page.document page.sheet page.metrics held d s m → Yields command (texts d s m) text
      → Gives (Some command) held text
  page_text held d s m text are is = (
    texts d s m,
    subst (λ inputs. AreHeld held (texts d s m) inputs) same (are.document_is.1, (are.sheet_is.1, (are.metrics_is.1, tt))),
    (
      subst (λ inputs. AreShort (texts d s m) inputs) same (are.document_is.0, (are.sheet_is.0, (are.metrics_is.0, tt))),
      is,
    ),
  )

  pub page_refused : (held : List ℕ → Option (List ℕ)) (before now : List ℕ → ℕ) (d s m : List ℕ) (refusal : Refusal)
      → AreContents page.document page.sheet page.metrics held d s m
      → (refusal ≡ NoMemory) ⊎ Denies command (texts d s m) refusal
      → IsCause (Some command) held before now 0 0 (Refused refusal)
  page_refused held before now d s m refusal are (inl none) = inl none
  page_refused held before now d s m refusal are (inr refused) =
      inr (
        texts d s m,
        subst (λ inputs. AreHeld held (texts d s m) inputs) same
            (are.document_is.1, (are.sheet_is.1, (are.metrics_is.1, tt))),
        inr (
          subst (λ inputs. AreShort (texts d s m) inputs) same
              (are.document_is.0, (are.sheet_is.0, (are.metrics_is.0, tt))),
          refused,
        ),
      )

page_reads : (view : View) (page : Page) → page_texts page ≡ reads (page_command view page)
page_reads Tree page = refl
page_reads (Point x y) page = refl
page_reads (Drawing rule) page = refl

view_yields : (view : View) (page : Page) (d s m text : List ℕ)
    → IsPageView (view_text view) d s m page.width page.height text → Yields (page_command view page) (texts d s m) text
view_yields Tree page d s m text is = is
view_yields (Point x y) page d s m text is = is
view_yields (Drawing rule) page d s m text is = is

view_denies : (view : View) (page : Page) (d s m : List ℕ) (refusal : Refusal)
    → RefusesPageView (view_text view) d s m page.width page.height refusal
    → Denies (page_command view page) (texts d s m) refusal
view_denies Tree page d s m refusal is = is
view_denies (Point x y) page d s m refusal is = is
view_denies (Drawing rule) page d s m refusal is = is

pub view_unread : (view : View) (page : Page) (held : List ℕ → Option (List ℕ)) (before now : List ℕ → ℕ) (stop : Stop)
    → IsReadingCause (page_texts page) held before now stop → IsCause (Some (page_command view page)) held before now 0 0 stop
view_unread view page held before now stop cause =
    page_unread (page_command view page) page (page_reads view page) held before now stop cause

pub view_alone : (view : View) (page : Page) (before now : List ℕ → ℕ) → OnlyThese before now (page_texts page)
    → OnlyThese before now (reads (page_command view page))
view_alone view page before now others = subst (λ inputs. OnlyThese before now inputs) (page_reads view page) others

pub view_result : (view : View) (page : Page) (held : List ℕ → Option (List ℕ)) (d s m text : List ℕ)
    → AreContents page.document page.sheet page.metrics held d s m
    → IsPageView (view_text view) d s m page.width page.height text → Gives (Some (page_command view page)) held text
view_result view page held d s m text are is =
    page_text (page_command view page) page (page_reads view page) held d s m text are (view_yields view page d s m text is)

pub view_refused : (view : View) (page : Page) (held : List ℕ → Option (List ℕ)) (before now : List ℕ → ℕ)
    (d s m : List ℕ) (refusal : Refusal) → AreContents page.document page.sheet page.metrics held d s m
    → (refusal ≡ NoMemory) ⊎ RefusesPageView (view_text view) d s m page.width page.height refusal
    → IsCause (Some (page_command view page)) held before now 0 0 (Refused refusal)
view_refused view page held before now d s m refusal are why =
    page_refused (page_command view page) page (page_reads view page) held before now d s m refusal are (go why)
  where
    go : (refusal ≡ NoMemory) ⊎ RefusesPageView (view_text view) d s m page.width page.height refusal
        → (refusal ≡ NoMemory) ⊎ Denies (page_command view page) (texts d s m) refusal
    go (inl none) = inl none
    go (inr is) = inr (view_denies view page d s m refusal is)

-- ---- a document whose pieces are lowered

pub all_unread : (page : Page) (held : List ℕ → Option (List ℕ)) (before now : List ℕ → ℕ) (stop : Stop)
    → IsReadingCause (page_texts page) held before now stop → IsCause (Some (all page)) held before now 0 0 stop
all_unread page held before now stop cause = page_unread (all page) page refl held before now stop cause

pub all_alone : (page : Page) (before now : List ℕ → ℕ) → OnlyThese before now (page_texts page)
    → OnlyThese before now (reads (all page))
all_alone page before now others = others

pub all_gives : (page : Page) (held : List ℕ → Option (List ℕ)) (d s m text : List ℕ)
    → AreContents page.document page.sheet page.metrics held d s m → IsAllResult d s m page.width page.height text
    → Gives (Some (all page)) held text
all_gives page held d s m text are is = page_text (all page) page refl held d s m text are is

pub all_refused : (page : Page) (held : List ℕ → Option (List ℕ)) (before now : List ℕ → ℕ) (d s m : List ℕ)
    (refusal : Refusal) → AreContents page.document page.sheet page.metrics held d s m
    → (refusal ≡ NoMemory) ⊎ RefusesAll d s m page.width page.height refusal
    → IsCause (Some (all page)) held before now 0 0 (Refused refusal)
all_refused page held before now d s m refusal are why = page_refused (all page) page refl held before now d s m refusal are why

-- ---- a generated document

pub gen_result : (start count : ℕ) (held : List ℕ → Option (List ℕ)) (text : List ℕ) → Yields (gen start count) (λ _. []) text
    → Gives (Some (gen start count)) held text
gen_result start count held text is = (λ _. [], tt, (tt, is))

pub gen_refused : (start count : ℕ) (held : List ℕ → Option (List ℕ)) (before now : List ℕ → ℕ) (refusal : Refusal)
    → (refusal ≡ NoMemory) ⊎ Denies (gen start count) (λ _. []) refusal
    → IsCause (Some (gen start count)) held before now 0 0 (Refused refusal)
gen_refused start count held before now refusal (inl none) = inl none
gen_refused start count held before now refusal (inr refused) = inr (λ _. [], tt, inr (tt, refused))

reason_by : (start count : ℕ) (refusal : Refusal) → (count ≤ 5000 → refusal ≡ NoMemory)
    → (5000 < count → refusal ≡ Limit Paragraphs 5001 5000) → (5000 < count) ⊎ (count ≤ 5000)
    → (refusal ≡ NoMemory) ⊎ Denies (gen start count) (λ _. []) refusal
reason_by start count refusal memory limit (inl many) = inr (many, limit many)
reason_by start count refusal memory limit (inr few) = inl (memory few)

-- why no document was generated
pub gen_reason : (start count : ℕ) (refusal : Refusal) → (count ≤ 5000 → refusal ≡ NoMemory)
    → (5000 < count → refusal ≡ Limit Paragraphs 5001 5000)
    → (refusal ≡ NoMemory) ⊎ Denies (gen start count) (λ _. []) refusal
gen_reason start count refusal memory limit = reason_by start count refusal memory limit (cases_lt 5000 count)

pub trial_gives : (start count : ℕ) (held : List ℕ → Option (List ℕ)) (text : List ℕ) → IsTrial start count text
    → Gives (Some (trial start count)) held text
trial_gives start count held text is = (λ _. [], tt, (tt, is))

pub trial_refused : (start count : ℕ) (held : List ℕ → Option (List ℕ)) (before now : List ℕ → ℕ) (refusal : Refusal)
    → (refusal ≡ NoMemory) ⊎ RefusesTrial start count refusal
    → IsCause (Some (trial start count)) held before now 0 0 (Refused refusal)
trial_refused start count held before now refusal (inl none) = inl none
trial_refused start count held before now refusal (inr refused) = inr (λ _. [], tt, inr (tt, refused))

pub ruleset flow_lemmas = (flow_unread, flow_alone, view_unread, view_alone, all_unread, all_alone)
