use Rattle.std.proofs.Common.{◌+◌, [], length, List, ap, ◌∙◌}
use Rattle.file_calls.specs.Calls.{Call}
use Rattle.file_calls.specs.Kept.{now_in}
use Rattle.images_on_files.specs.Held.{held}
use Rattle.images_on_files.proofs.Holds.{written}
use Rattle.images_on_files.proofs.file_sink.FileSink.write.Goals as goal

pub returns-clause-held : goal.returns-clause-held
returns-clause-held g c =
    ap (λ (calls : List Call). held calls (c.args.self.now.at + length c.args.part.now)) c.write_at.ensures.noted
    ∙ written (now_in [] (g.C.FileCalls.history c.args.self.now.file)) c.args.self.now.at c.args.part.now c.args.self.now.short
