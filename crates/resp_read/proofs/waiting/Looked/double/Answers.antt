use Rattle.std.proofs.lemmas.List.{take_rest}
use Rattle.resp_read.proofs.WaitLaws.{double_on_text}
use Rattle.resp_read.proofs.waiting.Looked.double.Goals as goal

pub returns-in-Double : goal.returns-in-Double
returns-in-Double c = double_on_text c.args.self c.args.text.now _ c.requires (take_rest c.args.text.now c.args.self.count) c.in-Double.seen c.read_through.result c.in-Double.is c.read_through.ensures
