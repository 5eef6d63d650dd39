-- What the requests of a generated trace ask for
use Rattle.std.proofs.Common.{◌≡◌, ℕ, zero, suc, ◌*◌, ◌^◌, ◌<◌, List, [], ◌++◌, length, true, false, Ok, None, refl, ap, ◌∙◌, arith}
use Rattle.std.specs.Prelude.{◌==◌, nat_lt, if◌then◌else◌}
use Rattle.std.specs.List.{list_any}
use Rattle.std.specs.Str.{bytes_eq}
use Rattle.std.proofs.lemmas.Bool.Decides.{nat_tests}
use Rattle.std.proofs.lemmas.Bool.{le-ltb, eq-eqb}
use Rattle.std.proofs.lemmas.Slice.Eq.{bytes_eq-Decides}
use Rattle.byteorder.specs.Endian.{big_bytes}
use Rattle.cm_base.specs.Configuration.{Configuration}
use Rattle.cm_base.specs.Units.{unit_of, unit_descriptor}
use Rattle.cm_base.specs.Fields.{zeros}
use Rattle.cm_base.proofs.PublicLaws.{number-back}
use Rattle.lba_ranges.specs.Denoted.{row, has_repeat, is_overlapping}
use Rattle.lba_ranges.specs.HeldBlocks.{HeldBlocks}
use Rattle.scsi_sense.specs.Codes.{invalid_field_in_parameter_list}
use Rattle.scsi_sense.specs.Faults.{unless}
use Rattle.scsi_cdb.specs.declared.cdb.Cdb.{Cdb}
use Rattle.scsi_cdb.specs.Encoded.{encoded}
use Rattle.scsi_cdb.specs.Decoded.{decoded}
use Rattle.block_params.specs.RangesRead.{range_fault}
use Rattle.block_params.specs.ListsRead.{populate_read, write_token_read}
use Rattle.block_params.specs.ListsWritten.{populate_written, write_token_written}
use Rattle.block_params.specs.declared.lists.WriteList.{WriteList}
use Rattle.rod_token.specs.declared.kind.TokenKind.{TokenKind}
use Rattle.rod_token.specs.TokenText.{classify, serial_of, token_text, nonce}
use Rattle.cm_frame.specs.declared.frame.Request.{Request}
use Rattle.cm_history.specs.declared.act.Act.{Act}
use Rattle.cm_history.specs.declared.answer.Answer.{Answer}
use Rattle.cmd_program.specs.declared.step.Outcome.{Outcome}
use Rattle.cmd_program.specs.Program.{Program, next, moved, done, refused, unless_refused, ask_then}
use Rattle.cmd_program.specs.SingleActs.{blocks_in, told_read, told_token, populate}
use Rattle.cmd_program.specs.TokenWrite.{TokenWrite, after_redeem, starting, rod_part, write_by, write_using_token}
use Rattle.cmd_program.specs.Judging.{out_fault, judged_out, judged_cdb, program, step}
use Rattle.generator.specs.Settings.{settings}
use Rattle.round_counts.proofs.Commands.{IsAsking, IsRedeeming}
use Rattle.round_counts.proofs.Quiet.{eight}

-- ---- commands of one act

-- a command that goes on by one answer, whatever it is
asks-alone : (config : Configuration) (r : Request) (unit : ℕ) (act : Act) (go_on : Answer → Program) → program config r ≡ ask_then unit act go_on
    → IsAsking step config r unit act (λ a. next (go_on a))
asks-alone config r unit act go_on is = record { asks = λ nexus. ap next is; ends = λ nexus a. ap (λ p. next (moved p (Outcome.Answered a))) is }

-- ---- CDBs, which are read as they were written

decoded-write : (lba : ℕ) → lba < 2 ^ 64 → decoded (encoded (Cdb.Write lba 8)) ≡ Ok (Cdb.Write lba 8)
decoded-write lba fits = ap (λ x. Ok (Cdb.Write x 8)) (number-back 8 lba fits)

decoded-read : (lba : ℕ) → lba < 2 ^ 64 → decoded (encoded (Cdb.Read lba 8)) ≡ Ok (Cdb.Read lba 8)
decoded-read lba fits = ap (λ x. Ok (Cdb.Read x 8)) (number-back 8 lba fits)

decoded-populate : (id : ℕ) → id < 2 ^ 32 → decoded (encoded (Cdb.PopulateToken id 32)) ≡ Ok (Cdb.PopulateToken id 32)
decoded-populate id fits = ap (λ x. Ok (Cdb.PopulateToken x 32)) (number-back 4 id fits)

decoded-use : (id : ℕ) → id < 2 ^ 32 → decoded (encoded (Cdb.WriteUsingToken id 552)) ≡ Ok (Cdb.WriteUsingToken id 552)
decoded-use id fits = ap (λ x. Ok (Cdb.WriteUsingToken x 552)) (number-back 4 id fits)

decoded-information : (id : ℕ) → id < 2 ^ 32 → decoded (encoded (Cdb.TokenInformation id 1024)) ≡ Ok (Cdb.TokenInformation id 1024)
decoded-information id fits = ap (λ x. Ok (Cdb.TokenInformation x 1024)) (number-back 4 id fits)

-- ---- what is written and read

-- a request with its CDB spelled
abbrev pub request : ℕ → Cdb → List ℕ → Request
request unit cdb out = record { unit = unit; cdb = encoded cdb; out = out }

pub asks-write : (lba : ℕ) (out : List ℕ) → lba < 2 ^ 64 → length out ≡ 4096
    → IsAsking step settings (request 0 (Cdb.Write lba 8) out) 0 (Act.Write lba (blocks_in 512 out)) (λ a. next (unless_refused done a))
asks-write lba out fits whole =
    let r = request 0 (Cdb.Write lba 8) out in
    let right : out_fault (unit_of settings 0) out (Cdb.Write lba 8) ≡ None = let e : (length out == 4096) ≡ true = eq-eqb (length out) 4096 whole in rw e refl in
    asks-alone settings r 0 (Act.Write lba (blocks_in 512 out)) (unless_refused done)
    (ap (judged_cdb settings r) (decoded-write lba fits) ∙ ap (judged_out settings r (Cdb.Write lba 8)) right)

pub asks-read : (lba : ℕ) → lba < 2 ^ 64 → IsAsking step settings (request 1 (Cdb.Read lba 8) []) 1 (Act.Read lba 8) (λ a. next (told_read a))
asks-read lba fits =
    asks-alone settings (request 1 (Cdb.Read lba 8) []) 1 (Act.Read lba 8) told_read
    (ap (judged_cdb settings (request 1 (Cdb.Read lba 8) [])) (decoded-read lba fits))

pub asks-information : (id : ℕ) → id < 2 ^ 32 → IsAsking step settings (request 1 (Cdb.TokenInformation id 1024) []) 1 (Act.Report id) (λ a. next (told_token settings 1 1024 a))
asks-information id fits =
    asks-alone settings (request 1 (Cdb.TokenInformation id 1024) []) 1 (Act.Report id) (told_token settings 1 1024)
    (ap (judged_cdb settings (request 1 (Cdb.TokenInformation id 1024) [])) (decoded-information id fits))

-- ---- lists

-- the blocks in a row are all different
none-again : (b first n : ℕ) → b < first → list_any (λ a. a == b) (row first n) ≡ false
none-again b first zero low = refl
none-again b first (suc n) low =
    let other : (first == b) ≡ false = grind (arith, nat_tests) in
    let later = none-again b (suc first) n (omega (arith, low)) in
    rw (other, later) refl

no-repeat : (first n : ℕ) → has_repeat (row first n) ≡ false
no-repeat first zero = refl
no-repeat first (suc n) = let here = none-again first (suc first) n (omega arith) in let later = no-repeat (suc first) n in rw (here, later) refl

no-fault : (lba : ℕ) → range_fault (eight lba) ≡ None
no-fault lba = let apart : is_overlapping (eight lba) ≡ false = no-repeat lba 8 in rw apart refl

-- the list of a POPULATE TOKEN with the default timeout, which is read as 300 seconds
abbrev populate_bytes : ℕ → List ℕ
populate_bytes lba = populate_written (record { timeout = 0; ranges = eight lba })

reads-populate : (lba : ℕ) → lba < 2 ^ 64 → populate_read (populate_bytes lba) ≡ Ok (record { timeout = 300; ranges = eight lba })
reads-populate lba fits =
    ap (λ x. unless (range_fault (eight x)) (Ok (record { timeout = 300; ranges = eight x }))) (number-back 8 lba fits)
    ∙ ap (λ f. unless f (Ok (record { timeout = 300; ranges = eight lba }))) (no-fault lba)

pub asks-populate : (id lba : ℕ) → id < 2 ^ 32 → lba < 2 ^ 64
    → IsAsking step settings (request 0 (Cdb.PopulateToken id 32) (populate_bytes lba)) 0 (Act.Populate id 300 (eight lba)) (λ a. next (unless_refused done a))
asks-populate id lba low fits =
    let r = request 0 (Cdb.PopulateToken id 32) (populate_bytes lba) in
    asks-alone settings r 0 (Act.Populate id 300 (eight lba)) (unless_refused done)
    (ap (judged_cdb settings r) (decoded-populate id low) ∙ ap (populate 0 id) (reads-populate lba fits))

-- ---- the token

-- the list of a WRITE USING TOKEN in the background, of the blocks from a place on
abbrev write_of : List ℕ → ℕ → WriteList
write_of token lba = record { immed = true; delete = false; offset = 0; token = token; ranges = eight lba }

-- a text that names a serial of unit 0
abbrev named_text : ℕ → List ℕ → List ℕ
named_text serial rest = big_bytes 4 0x0080_0000 ++ zeros 2 ++ big_bytes 2 0x01f8 ++ big_bytes 2 0 ++ big_bytes 6 serial ++ rest

names : (serial : ℕ) (rest : List ℕ) → serial < 2 ^ 48 → classify (named_text serial rest) ≡ TokenKind.Names 0 serial
names serial rest fits = ap (λ x. TokenKind.Names 0 x) (number-back 6 serial fits)

serial-back : (serial : ℕ) (rest : List ℕ) → serial < 2 ^ 48 → serial_of (named_text serial rest) ≡ serial
serial-back serial rest fits = number-back 6 serial fits

-- the rest of the text of a token of eight blocks
abbrev behind : ℕ → List ℕ
behind serial = unit_descriptor settings 0 ++ big_bytes 16 (8 * 512) ++ nonce settings 0 serial ++ zeros 416

token-names : (serial : ℕ) → serial < 2 ^ 48 → classify (token_text settings 0 serial 8) ≡ TokenKind.Names 0 serial
token-names serial fits = names serial (behind serial) fits

pub token-serial : (serial : ℕ) → serial < 2 ^ 48 → serial_of (token_text settings 0 serial 8) ≡ serial
token-serial serial fits = serial-back serial (behind serial) fits

pub same-text : (text : List ℕ) → bytes_eq text text ≡ true
same-text text = (bytes_eq-Decides text text).1 refl

-- the list of a round is read as it was written
reads-write : (serial lba : ℕ) → lba < 2 ^ 64
    → write_token_read (write_token_written (write_of (token_text settings 0 serial 8) lba)) ≡ Ok (write_of (token_text settings 0 serial 8) lba)
reads-write serial lba fits =
    ap (λ x. unless (range_fault (eight x)) (Ok (write_of (token_text settings 0 serial 8) x))) (number-back 8 lba fits)
    ∙ ap (λ f. unless f (Ok (write_of (token_text settings 0 serial 8) lba))) (no-fault lba)

-- the Start that writes a rod to the blocks from a place on
abbrev pub start_of : ℕ → ℕ → List ℕ → HeldBlocks → Act
start_of id lba token rod = Act.Start id true (eight lba) (rod_part (record { unit = 1; id = id; list = write_of token lba }) rod)

-- a request whose list was read so redeems its token
redeems-by : (id lba serial : ℕ) (token out : List ℕ) → id < 2 ^ 32 → length out ≡ 552 → write_token_read out ≡ Ok (write_of token lba)
    → classify token ≡ TokenKind.Names 0 serial
    → IsRedeeming step settings (request 1 (Cdb.WriteUsingToken id 552) out) token (start_of id lba token) (λ a. next (unless_refused done a))
redeems-by id lba serial token out low whole read kind = record {
  asks = λ nexus. ap next is;
  starts = λ nexus rod blocks. ap next (after rod blocks);
  ends = λ nexus rod a blocks. ap (λ p. next (moved p (Outcome.Answered a))) (after rod blocks);
}
  where
    r : Request
    r = request 1 (Cdb.WriteUsingToken id 552) out

    w : TokenWrite
    w = record { unit = 1; id = id; list = write_of token lba }

    right : out_fault (unit_of settings 1) out (Cdb.WriteUsingToken id 552) ≡ None
    right = let e : (length out == 552) ≡ true = eq-eqb (length out) 552 whole in rw e refl

    is : program settings r ≡ ask_then 0 (Act.Redeem token 1) (after_redeem w)
    is =
        ap (judged_cdb settings r) (decoded-use id low) ∙ ap (judged_out settings r (Cdb.WriteUsingToken id 552)) right
        ∙ ap (write_using_token settings 1 id) read ∙ ap (write_by settings w) kind

    after : (rod : HeldBlocks) → length rod.items ≡ 8 → moved (program settings r) (Outcome.Answered (Answer.Rod rod)) ≡ starting w (rod_part w rod)
    after rod blocks =
        let enough : nat_lt (length rod.items) 8 ≡ false = le-ltb (length rod.items) 8 (omega (arith, blocks)) in
        ap (λ p. moved p (Outcome.Answered (Answer.Rod rod))) is
        ∙ ap (λ b. if b then refused invalid_field_in_parameter_list else starting w (rod_part w rod)) enough

pub asks-redeem : (id lba : ℕ) → id < 2 ^ 32 → lba < 2 ^ 64
    → IsRedeeming step settings (request 1 (Cdb.WriteUsingToken id 552) (write_token_written (write_of (token_text settings 0 id 8) lba))) (token_text settings 0 id 8)
    (start_of id lba (token_text settings 0 id 8)) (λ a. next (unless_refused done a))
asks-redeem id lba low fits =
    redeems-by id lba id (token_text settings 0 id 8) (write_token_written (write_of (token_text settings 0 id 8) lba)) low refl (reads-write id lba fits)
    (token-names id (omega (arith, low)))
