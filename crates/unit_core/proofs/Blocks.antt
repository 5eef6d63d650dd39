-- Blocks that agree with a unit's past
use Rattle.std.proofs.Common.{◌≡◌, ℕ, List, ◌∷◌, ap, ◌∙◌}
use Rattle.cm_base.specs.declared.config.UnitConfig.{UnitConfig}
use Rattle.lba_ranges.specs.Writings.{Held, Writing, after, mapped_below}
use Rattle.lba_ranges.proofs.PublicLaws.{mapped-same}
use Rattle.cm_history.specs.Deeds.{Deed}
use Rattle.cm_history.specs.Blocks.{held, mapped}
use Rattle.cm_history.specs.Answers.{answer_read, answer_write, answer_status}
use Rattle.cm_history.proofs.PublicLaws.{read-same, write-same, status-same}
use Rattle.unit_core.specs.inner.Agreeing.{BlocksAgree}

pub mapped-agrees : (unit : UnitConfig) (past : List Deed) (blocks size : ℕ) (holds : ℕ → Held) → BlocksAgree unit past blocks size holds
    → mapped_below blocks holds ≡ mapped unit past
mapped-agrees unit past blocks size holds agree =
    ap (λ n. mapped_below n holds) agree.count ∙ mapped-same unit.blocks holds (held past) agree.same

-- a read of blocks that agree is that of the past
pub read-agrees : (unit : UnitConfig) (past : List Deed) (blocks size : ℕ) (holds : ℕ → Held) (lba count : ℕ) → BlocksAgree unit past blocks size holds
    → answer_read unit holds lba count ≡ answer_read unit (held past) lba count
read-agrees unit past blocks size holds lba count agree = read-same unit holds (held past) lba count agree.same

-- so is a write
pub write-agrees : (unit : UnitConfig) (past : List Deed) (blocks size : ℕ) (holds : ℕ → Held) (lba : ℕ) (items : List Held) → BlocksAgree unit past blocks size holds
    → answer_write unit holds lba items ≡ answer_write unit (held past) lba items
write-agrees unit past blocks size holds lba items agree = write-same unit holds (held past) lba items agree.same

-- the runs of blocks that agree are those of the past
pub status-agrees : (unit : UnitConfig) (past : List Deed) (blocks size : ℕ) (holds : ℕ → Held) (lba : ℕ) → BlocksAgree unit past blocks size holds
    → answer_status unit holds lba ≡ answer_status unit (held past) lba
status-agrees unit past blocks size holds lba agree = status-same unit holds (held past) lba agree.same

-- the blocks after one more deed
pub blocks-step : (unit : UnitConfig) (past : List Deed) (d : Deed) (blocks size blocks' size' : ℕ) (holds holds' : ℕ → Held) (ws : List Writing)
    → BlocksAgree unit past blocks size holds → blocks' ≡ blocks → size' ≡ size → ws ≡ d.wrote → ((b : ℕ) → holds' b ≡ after ws b (holds b))
    → BlocksAgree unit (d ∷ past) blocks' size' holds'
blocks-step unit past d blocks size blocks' size' holds holds' ws agree count length wrote put = record {
  count = count ∙ agree.count;
  size = length ∙ agree.size;
  same = λ b h. put b ∙ ap (after ws b) (agree.same b h) ∙ ap (λ l. after l b (held past b)) wrote;
}
