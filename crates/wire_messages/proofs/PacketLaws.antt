-- The laws of packets.
use Rattle.std.proofs.Common.{◌≡◌, ℕ, ◌+◌, ◌^◌, ◌<◌, ◌⊎◌, inl, inr, List, [], ◌++◌, length, Result, Ok, Err, refl, sym, ap, subst, ◌∙◌, append_assoc, arith}
use Rattle.std.specs.Result.{OnOk}
use Rattle.std.proofs.lemmas.List.{append-nil}
use Rattle.wire_fields.specs.of_locus_ids.declared.ids.EpochId.{EpochId}
use Rattle.wire_fields.specs.of_field_codec.declared.faults.FieldFault.{FieldFault}
use Rattle.wire_fields.specs.of_field_codec.Codec.{Codec, Unread, Read, ◌>>=◌, AreBytes, u32, whole}
use Rattle.wire_fields.specs.of_field_codec.Shapes.{framed}
use Rattle.wire_fields.proofs.of_field_codec.Laws.{Lawful, Takes, rest_at, bind_ok, ok_is, pair_laws, followed_by_laws, whole_takes, whole_again}
use Rattle.wire_fields.proofs.of_field_codec.Shapes.{framed_laws}
use Rattle.wire_fields.proofs.PartLaws.{u8_in_laws, sites_laws, numbers_laws, epochs_laws}
use Rattle.wire_fields.proofs.Members.{range}
use Rattle.wire_messages.specs.declared.body.Body.{Body}
use Rattle.wire_messages.specs.declared.packet.Packet.{Packet}
use Rattle.wire_messages.specs.Bodies.{kind_number, body_bytes, FitsBody, bodies}
use Rattle.wire_messages.specs.Packets.{Header, headers, header_of, packet_of, packet_bytes, FitsPacket, IsPacket, parts, packets, BeginsNoOther}
use Rattle.wire_messages.proofs.BodyLaws.{every_body, covers_body, kind_in_range}

headers_laws : Lawful headers
headers_laws = pair_laws (u8_in_laws 1 1) (pair_laws (u8_in_laws 1 26) (pair_laws sites_laws (pair_laws numbers_laws (pair_laws sites_laws (pair_laws numbers_laws epochs_laws)))))

abbrev pub framed_body : Header → Codec Body
framed_body h = framed (bodies h.1.0)

parts_laws : Lawful parts
parts_laws = followed_by_laws headers framed_body headers_laws (λ h. framed_laws (every_body.each.laws h.1.0))

same_header : (version kind a b c d m n : ℕ) (e : EpochId) → m ≡ version → n ≡ kind → (let h : Header = (m, (n, (a, (b, (c, (d, e)))))) in h) ≡ (version, (kind, (a, (b, (c, (d, e))))))
same_header version kind a b c d m n e x y = cc

-- a header and a body of its kind are those of their packet
module _ (h : Header) (b : Body) (fits : parts.Fits (h, b)) where
  header_again : header_of (packet_of h b) ≡ h
  header_again =
      let r = range 1 1 h.0 fits.0.0.0 in
      same_header h.0 h.1.0 h.1.1.0 h.1.1.1.0 h.1.1.1.1.0 h.1.1.1.1.1.0 1 (kind_number b) h.1.1.1.1.1.1 (omega (arith, r.0, r.1)) (every_body.each.own h.1.0 b fits.1.0)

  body_again : (bodies h.1.0).spell b ≡ body_bytes b
  body_again = every_body.spelled h.1.0 b fits.1.0

  bytes_again : packet_bytes (packet_of h b) ≡ parts.spell (h, b)
  bytes_again =
      ap (λ (x : Header). headers.spell x ++ (u32.spell (length (body_bytes b)) ++ body_bytes b)) header_again
      ∙ ap (λ (t : List ℕ). headers.spell h ++ (u32.spell (length t) ++ t)) (sym body_again)

  packet_fits : FitsPacket (packet_of h b)
  packet_fits = record {
    from = fits.0.1.1.0;
    from_boot = fits.0.1.1.1.0;
    to = fits.0.1.1.1.1.0;
    to_boot = fits.0.1.1.1.1.1.0;
    epoch = fits.0.1.1.1.1.1.1;
    body = every_body.fits h.1.0 b fits.1.0;
    short = subst (λ (t : List ℕ). length t < 2 ^ 32) body_again fits.1.1;
  }

module _ (p : Packet) (fits : FitsPacket p) where
  own_body : (bodies (kind_number p.body)).Fits p.body
  own_body = (covers_body p.body fits.body).2

  own_spelled : (bodies (kind_number p.body)).spell p.body ≡ body_bytes p.body
  own_spelled = every_body.spelled (kind_number p.body) p.body own_body

  parts_fit : parts.Fits (header_of p, p.body)
  parts_fit = (
    ((refl, omega arith), (kind_in_range p.body, (fits.from, (fits.from_boot, (fits.to, (fits.to_boot, fits.epoch)))))),
    (own_body, subst (λ (t : List ℕ). length t < 2 ^ 32) (sym own_spelled) fits.short),
  )

  parts_spelled : parts.spell (header_of p, p.body) ≡ packet_bytes p
  parts_spelled = ap (λ (t : List ℕ). headers.spell (header_of p) ++ (u32.spell (length t) ++ t)) own_spelled

pub packets_laws : Lawful packets
packets_laws = record { takes = takes; again = again } where
  takes : (u : Unread) (x : Packet) (after : Unread) → AreBytes u.bytes → packets.read u ≡ Ok (x, after) → Takes u (packet_bytes x) after × FitsPacket x
  takes u x after h e =
      let a = bind_ok (parts.read u) (λ r. Ok (packet_of r.0.0 r.0.1, r.1)) (x, after) e in
      let k = parts_laws.takes u a.0.0 a.0.1 h a.1 in
      subst (λ (y : Packet × Unread). Takes u (packet_bytes y.0) y.1 × FitsPacket y.0) (ok_is (packet_of a.0.0.0 a.0.0.1, a.0.1) (x, after) a.2)
      (subst (λ (t : List ℕ). Takes u t a.0.1) (sym (bytes_again a.0.0.0 a.0.0.1 k.1)) k.0, packet_fits a.0.0.0 a.0.0.1 k.1)

  again : (x : Packet) (at : ℕ) (rest : List ℕ) → FitsPacket x → packets.read (rest_at at (packet_bytes x ++ rest)) ≡ Ok (x, rest_at (at + length (packet_bytes x)) rest)
  again x at rest h = by_text (packet_bytes x) (parts_spelled x h) where
    by_text : (text : List ℕ) → parts.spell (header_of x, x.body) ≡ text → packets.read (rest_at at (text ++ rest)) ≡ Ok (x, rest_at (at + length text) rest)
    by_text text e =
        subst (λ (t : List ℕ). packets.read (rest_at at (t ++ rest)) ≡ Ok (x, rest_at (at + length t) rest)) e
        (rw (parts_laws.again (header_of x, x.body) at rest (parts_fit x h)) refl)

-- a packet whose bytes begin with those of a packet is that packet
pub begins_no_other : BeginsNoOther
begins_no_other p q more fits_p fits_q e =
    let one : packets.read (rest_at 0 (packet_bytes q)) ≡ Ok (q, rest_at (0 + length (packet_bytes q)) []) = ap (λ (t : List ℕ). packets.read (rest_at 0 t)) (sym (append-nil (packet_bytes q))) ∙ packets_laws.again q 0 [] fits_q in
    let other : packets.read (rest_at 0 (packet_bytes q)) ≡ Ok (p, rest_at (0 + length (packet_bytes p)) more) = ap (λ (t : List ℕ). packets.read (rest_at 0 t)) e ∙ packets_laws.again p 0 more fits_p in
    let same = ok_is (q, rest_at (0 + length (packet_bytes q)) []) (p, rest_at (0 + length (packet_bytes p)) more) (sym one ∙ other) in
    (ap (λ (x : Packet × Unread). x.0) same, sym (ap (λ (x : Packet × Unread). x.1.bytes) same))

-- a header and the length of a body, and then the body, are the packet
pub spelled : (heading body : List ℕ) (n : ℕ) (p : Packet) → body ≡ body_bytes p.body → n ≡ length body → heading ≡ headers.spell (header_of p) ++ u32.spell n → heading ++ body ≡ packet_bytes p
spelled heading body n p is len e =
    let head : List ℕ = headers.spell (header_of p) in
    ap (λ (t : List ℕ). t ++ body) e ∙ append_assoc head (u32.spell n) body
    ∙ ap (λ (k : ℕ). head ++ (u32.spell k ++ body)) len ∙ ap (λ (b : List ℕ). head ++ (u32.spell (length b) ++ b)) is

-- the heading and the body were added
pub added : {E : Type 0} (r : Result (Unit {0}) E) (old new heading body : List ℕ) (n : ℕ) (p : Packet) → body ≡ body_bytes p.body → n ≡ length body → heading ≡ headers.spell (header_of p) ++ u32.spell n → OnOk r (new ≡ old ++ (heading ++ body)) → OnOk r (new ≡ old ++ packet_bytes p)
added (Ok x) old new heading body n p is len e h = h ∙ ap (λ (t : List ℕ). old ++ t) (spelled heading body n p is len e)
added (Err d) old new heading body n p is len e h = tt
