use Rattle.config_text.proofs.Counted.{first-line}
use Rattle.config_text.proofs.text.line_of.Goals as goal

pub returns-in-NoSecret : goal.returns-in-NoSecret
returns-in-NoSecret c = first-line c.args.text.now
