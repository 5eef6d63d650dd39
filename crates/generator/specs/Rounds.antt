-- What one round of a generated trace does: it writes, makes a token, writes with it to the other unit, and looks
use Rattle.std.specs.Prelude.{ℕ, ◌+◌, ◌*◌, ◌%◌, List, [], ◌∷◌, ◌++◌, replicate, true, false}
use Rattle.cm_frame.specs.declared.item.TraceItem.{TraceItem}
use Rattle.scsi_cdb.specs.declared.cdb.Cdb.{Cdb}
use Rattle.scsi_cdb.specs.Encoded.{encoded}
use Rattle.lba_ranges.specs.declared.ranges.Range.{Range}
use Rattle.block_params.specs.ListsWritten.{populate_written, write_token_written}
use Rattle.rod_token.specs.TokenText.{token_text}
use Rattle.generator.specs.Settings.{settings}

-- A round's number is its moment, its token's serial and its list identifier, and names one of eight initiators.
abbrev pub initiator : ℕ → ℕ
initiator round = round % 8

-- the eight blocks of unit 0 that are written, and that the token stands for
abbrev pub source : ℕ → Range
source round = record { lba = 37 * round % 65_536; count = 8 }

-- the eight blocks of unit 1 that the token is written to
abbrev pub target : ℕ → Range
target round = record { lba = 8 * round; count = 8 }

-- what is written: eight blocks of one byte
abbrev pub written : ℕ → List ℕ
written round = replicate 4096 (round % 251 + 1)

-- the list of the POPULATE TOKEN, with the default timeout
abbrev pub populate_list : ℕ → List ℕ
populate_list round = populate_written (record { timeout = 0; ranges = source round ∷ [] })

-- the list of the WRITE USING TOKEN, which goes on in the background
abbrev pub write_list : ℕ → List ℕ
write_list round = write_token_written (record {
  immed = true;
  delete = false;
  offset = 0;
  token = token_text settings 0 round 8;
  ranges = target round ∷ [];
})

-- ---- items

-- the round's initiator sends a command to a unit, with this data-out
abbrev pub begin_of : ℕ → ℕ → Cdb → List ℕ → TraceItem
begin_of round unit cdb out = TraceItem.Begin (initiator round) round (record { unit = unit; cdb = encoded cdb; out = out })

-- the command of the round's initiator does its next act
abbrev pub run_of : ℕ → TraceItem
run_of round = TraceItem.Run (initiator round) round

-- a command of one act
abbrev pub command : ℕ → ℕ → Cdb → List ℕ → List TraceItem
command round unit cdb out = begin_of round unit cdb out ∷ run_of round ∷ []

-- blocks are written, and a token is made of them
abbrev pub making : ℕ → List TraceItem
making round =
    command round 0 (Cdb.Write (source round).lba 8) (written round)
    ++ command round 0 (Cdb.PopulateToken round 32) (populate_list round)

-- the token is redeemed, the write starts, and the pump writes
abbrev pub redeeming : ℕ → List TraceItem
redeeming round =
    command round 1 (Cdb.WriteUsingToken round 552) (write_list round) ++ run_of round ∷ TraceItem.Pump 1 round ∷ []

-- what became of it is asked, and what was written is read
abbrev pub looking : ℕ → List TraceItem
looking round = command round 1 (Cdb.TokenInformation round 1024) [] ++ command round 1 (Cdb.Read (target round).lba 8) []

-- all that happens in the round, in order
abbrev pub round_items : ℕ → List TraceItem
round_items round = making round ++ redeeming round ++ looking round
