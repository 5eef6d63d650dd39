use Rattle.copymgr.proofs.AnyBytes.{torn-same}
use Rattle.copymgr.proofs.journal_files.JournalFileDisk.write_at.Goals as goal

pub returns-in-Ok-clause-crash : goal.returns-in-Ok-clause-crash
returns-in-Ok-clause-crash c = λ image any. (image, any, torn-same _ _ image)

pub returns-in-Err-clause-crash : goal.returns-in-Err-clause-crash
returns-in-Err-clause-crash c = λ image any. (image, any, torn-same _ _ image)
