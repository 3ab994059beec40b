-- What the octets of RTCP packets say (RFC 3550, 6.4 to 6.7), and those of RTP packets (5.1), in numbers and lists.
use Rattle.std.specs.Prelude.{ℕ, ℤ, List, Option, Bool}

-- what a sender report says of its sender (6.4.1): a moment on two clocks, and what was sent up to then
pub record SenderValue : Type 0 where
  pub ssrc : ℕ
  pub ntp : ℕ
  pub rtp : ℕ
  pub packets : ℕ
  pub octets : ℕ

-- a reception report block (6.4.1)
pub record ReportBlock : Type 0 where
  pub ssrc : ℕ
  pub fraction : ℕ
  pub lost : ℤ
  pub highest : ℕ
  pub jitter : ℕ
  pub lsr : ℕ
  pub dlsr : ℕ

-- an SDES item: its type, and the octets of its text (6.5)
pub record ItemValue : Type 0 where
  pub kind : ℕ
  pub text : List ℕ

-- an SDES chunk: a source, and the items that describe it (6.5)
pub record ChunkValue : Type 0 where
  pub id : ℕ
  pub items : List ItemValue

-- what a packet that an application defines says (6.7): its source, its subtype, its name of four octets, and its data
pub record AppValue : Type 0 where
  pub ssrc : ℕ
  pub subtype : ℕ
  pub name : List ℕ
  pub content : List ℕ

pub data RtcpPacket : Type 0 where
  -- a sender report (6.4.1): its sender, its blocks, and the extension after them
  sr : (sender : SenderValue) (blocks : List ReportBlock) (extension : List ℕ) → RtcpPacket
  -- a receiver report (6.4.2): its sender, its blocks, and the extension after them
  rr : (ssrc : ℕ) (blocks : List ReportBlock) (extension : List ℕ) → RtcpPacket
  -- a source description (6.5)
  sdes : (chunks : List ChunkValue) → RtcpPacket
  -- a BYE (6.6): the sources that leave, and the octets of the text that says why
  bye : (ids : List ℕ) (reason : Option (List ℕ)) → RtcpPacket
  -- a packet that an application defines (6.7): its subtype, its source, its name of four octets, its data
  app : (subtype ssrc : ℕ) (name content : List ℕ) → RtcpPacket
  -- a packet of another type, whose body is kept as it is
  other : (kind count : ℕ) (body : List ℕ) → RtcpPacket

-- what an RTP packet says: the fields of its header, and its payload without the padding
pub record RtpValue : Type 0 where
  pub payload_type : ℕ
  pub marker : Bool
  pub sequence : ℕ
  pub timestamp : ℕ
  pub ssrc : ℕ
  pub csrcs : List ℕ
  pub payload : List ℕ
