-- What was gathered of a long request, and of an item that begins with one.
use Rattle.std.specs.Prelude.{◌≡◌, ℕ, ◌<◌, List, [], ◌++◌, length, Option, Some, None}
use Rattle.cm_frame.specs.declared.long_request.LongRequest.{LongRequest}
use Rattle.cm_frame.specs.declared.long_item.LongItem.{LongItem}
use Rattle.cm_frame.specs.inner.DataOut.{so_far}

-- the bytes of the request so far
abbrev pub gathered : LongRequest → List ℕ
gathered l = l.front ++ so_far l.whole l.come.items

-- the bytes of the item so far
abbrev pub gathered_item : LongItem → List ℕ
gathered_item l = l.start ++ gathered l.request

-- the bytes of a request or an item that was begun, if one was
abbrev pub begun : Option LongRequest → List ℕ
begun None = []
begun (Some l) = gathered l

abbrev pub begun_item : Option LongItem → List ℕ
begun_item None = []
begun_item (Some l) = gathered_item l

-- where data is still to come, no byte waits
abbrev pub HasTaken : LongRequest → List ℕ → Type 0
HasTaken l rest = length (so_far l.whole l.come.items) < l.wanted → rest ≡ []
