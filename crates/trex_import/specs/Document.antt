-- The JSON value of the text that is written for the records of a capture, with the members of each object in the order of their keys. Own.
use Rattle.std.specs.Prelude.{ℕ, List, codes, decimal}
use Rattle.base64.specs.Engines.{standard}
use Rattle.base64.specs.GeneralPurpose.{encode_of}
use Rattle.serde_json.specs.Data.{Data, string, array, object, Members, no_members, member}
use Rattle.serde_json.specs.View.{items_of}
use Rattle.trex_io.specs.Seen.{Seen}
use Rattle.trex_import.specs.Imported.{first_time, for_each, microseconds}

-- a member that is a text, before others
abbrev pub text_member : List ℕ → List ℕ → Members → Members
text_member key text others = member key (string text) others

-- the mode of a stream that sends one packet
abbrev pub once_data : Data
once_data = object (
    member (codes "rate") (object (text_member (codes "type") (codes "pps") (text_member (codes "value") (codes "1000000000") no_members)))
    (text_member (codes "total_pkts") (codes "1") (text_member (codes "type") (codes "single_burst") no_members)))

-- the stream of a gap and a packet, as texts
abbrev pub stream_data : List ℕ → List ℕ → Data
stream_data gap packet = object (
    text_member (codes "isg") gap
    (member (codes "mode") once_data
    (member (codes "packet") (object (text_member (codes "binary") packet no_members)) no_members)))

-- the entry of a gap, a packet and an id, as texts
abbrev pub entry_of : List ℕ → List ℕ → List ℕ → Data
entry_of gap packet id = object (member (codes "stream") (stream_data gap packet) (text_member (codes "stream_id") id no_members))

-- the entry of the stream of this id that sends these bytes once, so many nanoseconds from the start
abbrev pub entry_data : ℕ → ℕ → List ℕ → Data
entry_data id ns bytes = entry_of (microseconds ns) (encode_of standard bytes) (decimal id)

-- the array of the entries of some records
abbrev pub document : List Seen → Data
document records = array (items_of (for_each entry_data (first_time records) 1 records))
