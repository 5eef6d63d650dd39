use Rattle.recorder.proofs.SpelledEntries.{entry-spelled}
use Rattle.recorder.proofs.laws.one_spelling_law.Goals as goal

pub returns : goal.returns
returns c = entry-spelled
