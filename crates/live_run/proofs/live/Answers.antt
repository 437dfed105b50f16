-- What follows of the cause for which the session stopped.
use Rattle.std.proofs.Common.{subst, sym, ap, map, string_bytes, ◌∙◌, ◌≡◌, ◌≢◌, ◌≤◌}
use Rattle.mc_run.specs.declared.stop.Stop.{Stop}
use Rattle.mc_run.specs.declared.stop.Stop.TheVariants.{Refused}
use Rattle.mc_run.specs.Stops.{status_of}
use Rattle.mc_run.specs.Told.{Tells}
use Rattle.mc_words.specs.Words.{session_of}
use Rattle.live_run.specs.Told.{session_line}
use Rattle.live_run.proofs.Causes.{status_at_most, unread, ungrammatical, not_laid_out, limited, complete, stops_for}
use Rattle.live_run.proofs.OneReason.{no_result}
use Rattle.live_run.proofs.Stopping.{none_given}
use Rattle.live_run.proofs.live.Goals as goal

pub returns-in_default-clause-usage : goal.returns-in_default-clause-usage
returns-in_default-clause-usage g c = λ none.
    let got = c.in_default.ensures.ok in
    absurd (none_given (session_of (map string_bytes c.args.words.now)) (g.F.Files.held c.args.files.now) got.0 none got.1)

pub returns-clause-usage : goal.returns-clause-usage
returns-clause-usage g c = λ none.
    let is = c.in-Err.ensures.usage none in (
      c.status.ensures ∙ ap status_of is,
      subst (λ (s : Stop). Tells (g.E.Sink.written c.args.err.now) (g.E.Sink.written c.tell_session.new.err)
          (g.E.Sink.faults c.args.err.now) (g.E.Sink.faults c.tell_session.new.err) (session_line s)) is c.tell_session.ensures,
    )

pub returns-clause-read : goal.returns-clause-read
returns-clause-read g c = λ is. unread _ _ _ _ _ _ _ c.in-Err.ensures.err (sym c.status.ensures ∙ is)

pub returns-clause-grammar : goal.returns-clause-grammar
returns-clause-grammar g c = λ is. ungrammatical _ _ _ _ _ _ _ c.in-Err.ensures.err (sym c.status.ensures ∙ is)

pub returns-clause-construct : goal.returns-clause-construct
returns-clause-construct g c = λ is. not_laid_out _ _ _ _ _ _ _ c.in-Err.ensures.err (sym c.status.ensures ∙ is)

pub returns-clause-limit : goal.returns-clause-limit
returns-clause-limit g c = λ is. limited _ _ _ _ _ _ _ c.in-Err.ensures.err (sym c.status.ensures ∙ is)

pub returns-clause-statuses : goal.returns-clause-statuses
returns-clause-statuses g c = subst (λ n. n ≤ 7) (sym c.status.ensures) (status_at_most _)

pub returns-clause-complete : goal.returns-clause-complete
returns-clause-complete g c = λ accepts read calm memory.
    absurd (complete c.scripts_have_one_answer.ensures _ _ _ _ _ _ _ c.in-Err.ensures.err accepts read calm
    (subst (λ n. n ≢ 7) c.status.ensures memory))

pub returns-in_default-clause-refused : goal.returns-in_default-clause-refused
returns-in_default-clause-refused g c = λ refusal told read memory.
    let got = c.in_default.ensures.ok in
    absurd (no_result c.scripts_have_one_answer.ensures (session_of (map string_bytes c.args.words.now))
    (g.F.Files.held c.args.files.now) got.0 refusal got.1 told)

pub returns-clause-refused : goal.returns-clause-refused
returns-clause-refused g c = λ refusal told read memory.
    let part = c.in-Err.ensures.part in
    let is : c.in-Err.stop ≡ Refused refusal =
    stops_for c.scripts_have_one_answer.ensures (session_of (map string_bytes c.args.words.now))
    (g.F.Files.held c.args.files.now)
    (g.F.Files.faults c.args.files.now) (g.F.Files.faults c.answer.new.files)
    (g.K.Sink.faults c.args.out.now) (g.K.Sink.faults c.answer.new.out) c.in-Err.stop refusal c.in-Err.ensures.err
    (λ same. let p = part same in (p.0, p.1)) told read (subst (λ n. n ≢ 7) c.status.ensures memory) in (
      c.status.ensures ∙ ap status_of is,
      subst (λ (s : Stop). Tells (g.E.Sink.written c.args.err.now) (g.E.Sink.written c.tell_session.new.err)
          (g.E.Sink.faults c.args.err.now) (g.E.Sink.faults c.tell_session.new.err) (session_line s)) is c.tell_session.ensures,
    )
