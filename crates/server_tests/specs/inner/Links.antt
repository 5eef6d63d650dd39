-- What links in memory gave and took
use Rattle.std.specs.Prelude.{◌≡◌, ◌≤◌, ℕ, List, [], ◌∷◌, ◌++◌, length, Option, None}
use Rattle.cm_base.specs.Listening.{Gone}
use Rattle.cm_frame.specs.Framing.{framed}
use Rattle.cmd_program.specs.Exchanges.{Exchange, requests_of, replies_of}
use Rattle.cm_server.specs.Talks.{AreRequestsIn}
use Rattle.session.specs.Spoken.{ArePushed}
use Rattle.session.specs.declared.end.SessionFault.{SessionFault}

-- The link took the replies of some exchanges, whose requests are those in the bytes that it gave, as far as its session
-- came. Without a fault these are all requests, and it took all replies.
pub record IsAnswered (gave : List ℕ) (link : Gone) : Type 0 where
  pub exchanges : List Exchange
  pub fault : Option SessionFault
  pub requests : AreRequestsIn (framed gave) (requests_of exchanges) fault
  pub replies : ArePushed exchanges link.taken fault
  pub whole : fault ≡ None → ((framed gave).requests ≡ requests_of exchanges) × (link.taken ≡ replies_of exchanges)

-- each link, in order
abbrev pub AreAnswered : List (List ℕ) → List Gone → Type 0
AreAnswered [] [] = Unit {0}
AreAnswered (gave ∷ more) (link ∷ links) = IsAnswered gave link × AreAnswered more links
AreAnswered _ _ = ⊥

-- the first of the links that came were answered, one at least, and given back in their order
pub record AreFirstAnswered (coming : List (List ℕ)) (ended : List Gone) : Type 0 where
  pub served : List (List ℕ)
  pub rest : List (List ℕ)
  pub first : coming ≡ served ++ rest
  pub some : 1 ≤ length served
  pub answered : AreAnswered served ended
