-- What the host copier asks
use Rattle.std.specs.Prelude.{ℕ, List, [], length, Bool, true}
use Rattle.lba_ranges.specs.declared.ranges.Range.{Range}
use Rattle.scsi_cdb.specs.declared.cdb.Cdb.{Cdb}
use Rattle.scsi_cdb.specs.Encoded.{encoded}
use Rattle.block_params.specs.declared.lists.PopulateList.{PopulateList}
use Rattle.block_params.specs.declared.lists.WriteList.{WriteList}
use Rattle.block_params.specs.ListsWritten.{populate_written, write_token_written}
use Rattle.cm_frame.specs.declared.frame.Request.{Request}

-- seconds until a token is over that nobody uses
abbrev pub token_timeout : ℕ
token_timeout = 300

-- bytes of status that are asked for
abbrev pub status_limit : ℕ
status_limit = 1024

-- POPULATE TOKEN, of these ranges
abbrev pub populate_list : List Range → PopulateList
populate_list ranges = record { timeout = token_timeout; ranges = ranges }

-- POPULATE TOKEN of these ranges
abbrev pub populate_request : ℕ → ℕ → List Range → Request
populate_request unit id ranges =
    let list = populate_written (populate_list ranges) in
    record { unit = unit; cdb = encoded (Cdb.PopulateToken id (length list)); out = list }

-- RECEIVE ROD TOKEN INFORMATION
abbrev pub status_request : ℕ → ℕ → Request
status_request unit id = record { unit = unit; cdb = encoded (Cdb.TokenInformation id status_limit); out = [] }

-- WRITE USING TOKEN in the background, of the token's blocks from an offset on to these ranges; `delete` is DEL_TKN
abbrev pub write_list : List ℕ → ℕ → Bool → List Range → WriteList
write_list token offset delete ranges = record { immed = true; delete = delete; offset = offset; token = token; ranges = ranges }

-- WRITE USING TOKEN of these ranges, from an offset into the token
abbrev pub write_request : ℕ → ℕ → List ℕ → ℕ → Bool → List Range → Request
write_request unit id token offset delete ranges =
    let list = write_token_written (write_list token offset delete ranges) in
    record { unit = unit; cdb = encoded (Cdb.WriteUsingToken id (length list)); out = list }
