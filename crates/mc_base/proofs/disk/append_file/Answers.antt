-- Bytes that begin with the old ones and are at most so many longer.
use Rattle.std.proofs.Common.{◌≡◌, ◌+◌, length, arith}
use Rattle.mc_base.proofs.NameCounts.{appends_at_most}
use Rattle.mc_base.proofs.disk.append_file.Goals as goal

pub returns-in-Ok-2-clause-ok : goal.returns-in-Ok-2-clause-ok
returns-in-Ok-2-clause-ok g c =
    let longer : length c.read_to_end.new.buf.items ≡ length c.args.into.now.items + c.in-Ok-read_to_end.count =
    omega (arith, c.in-Ok-read_to_end.ensures.ok, c.read_to_end.new.buf.ok.0, c.args.into.now.ok.0)
    in appends_at_most _ _ _ c.in-Ok-read_to_end.count c.in-Ok-read_to_end.ensures.appends longer c.if-count-limit.false
