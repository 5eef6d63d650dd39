use Rattle.pr_keys.proofs.Sound.{applied-sound}
use Rattle.pr_keys.proofs.laws.sound_law.Goals as goal

pub returns : goal.returns
returns c = applied-sound
