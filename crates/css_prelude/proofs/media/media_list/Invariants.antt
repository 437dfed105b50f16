use Rattle.std.proofs.Common.{◌≡◌, false, drop}
use Rattle.css_prelude.specs.declared.media.Awaits.TheVariants as awaits
use Rattle.css_prelude.specs.Media.{listed_as, listed_from}
use Rattle.css_prelude.proofs.media.media_list.Given as goal

abbrev pub invariant-loop-lexeme : goal.invariant-loop-lexeme
invariant-loop-lexeme l = listed_from l.listed (drop l.lexeme-index l.prelude) ≡ listed_from (listed_as awaits.First false)
    l.prelude
