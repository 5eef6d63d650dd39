-- The kinds of commands: with tokens, copies of segments, and those that ask for one act at most
use Rattle.std.specs.Prelude.{Bool, true, false, ◌||◌, not}
use Rattle.scsi_cdb.specs.declared.cdb.Cdb.{Cdb}

-- the command is POPULATE TOKEN, WRITE USING TOKEN, or one that asks or aborts their operations
abbrev pub is_token_command : Cdb → Bool
is_token_command (Cdb.PopulateToken id length) = true
is_token_command (Cdb.WriteUsingToken id length) = true
is_token_command (Cdb.CopyAbort id) = true
is_token_command (Cdb.CopyStatus4 id allocation) = true
is_token_command (Cdb.TokenInformation id allocation) = true
is_token_command _ = false

-- the command is EXTENDED COPY(LID1) or RECEIVE COPY STATUS(LID1)
abbrev pub is_copy_command : Cdb → Bool
is_copy_command (Cdb.ExtendedCopy length) = true
is_copy_command (Cdb.CopyStatus1 id allocation) = true
is_copy_command _ = false

-- the command asks for one act at most
abbrev pub is_plain_command : Cdb → Bool
is_plain_command cdb = not (is_token_command cdb || is_copy_command cdb)
