use Rattle.std.{proofs.Common.rules, specs.Io.KnownBytes.Appends}
use Rattle.tp_shell.proofs.Written.{appends_kept, on_ok}
use Rattle.tp_shell.proofs.streams.write_text.Goals as goal

pub returns : goal.returns
returns g c =
    let wrote : Appends (g.O.Write.contents c.args.out.now) (g.O.Write.contents c.write_all.new.self) c.args.text.now = search rules in
    on_ok c.flush.result (appends_kept _ _ _ _ wrote c.flush.ensures.bytes)
