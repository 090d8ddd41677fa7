-- One part of an event after another.
use Rattle.std.proofs.Common.{◌≡◌, ℕ, List, [], ◌∷◌, ◌++◌, Option, Some, None, refl, sym, subst}
use Rattle.locus_ids.specs.declared.config.Config.{Config}
use Rattle.wire_messages.specs.declared.packet.Packet.{Packet}
use Rattle.role_steps.specs.Own.{Every}
use Rattle.role_steps.specs.Views.{SiteView, Told, DiskWrite, Outcome, first_written, joined_to}
use Rattle.role_steps.proofs.Sending.{every_append}
use Rattle.the_run.specs.Worlds.{Line, told_onto}
use Rattle.the_run.proofs.Boots.{every_weaker}
use Rattle.tree_laws.specs.Doing.{AllTold, WrittenFact, NoWrite}
use Rattle.tree_laws.specs.Following.{MayTell}
use Rattle.tree_laws.specs.Packets.{PacketFact}
use Rattle.tree_laws.proofs.Carried.{packet_stays}
use Rattle.store_laws.specs.OneTree.Places.{AllAt, IsOf, SiteFine}
use Rattle.store_laws.specs.OneTree.Rest.{EachRest, IsRest, AllRest, RestTold, Past, more}
use Rattle.store_laws.proofs.OneTree.Staying.{Stays}

-- ---- what is told ----

pub onto_append : (n : ℕ) (xs ys : List Told) (trace : List Line) → told_onto n (xs ++ ys) trace ≡ told_onto n ys (told_onto n xs trace)
onto_append n [] ys trace = refl
onto_append n (x ∷ xs) ys trace = onto_append n xs ys (record { number = n; told = x } ∷ trace)

pub told_append : (c : Config) (n : ℕ) (xs ys : List Told) (trace : List Line) → AllTold c n trace xs → AllTold c n (told_onto n xs trace) ys → AllTold c n trace (xs ++ ys)
told_append c n [] ys trace h k = k
told_append c n (x ∷ xs) ys trace h k = (h.0, told_append c n xs ys (record { number = n; told = x } ∷ trace) h.1 k)

pub rest_first : (c : Config) (n : ℕ) (xs ys : List Told) (trace : List Line) → AllRest c n trace (xs ++ ys) → AllRest c n trace xs
rest_first c n [] ys trace h = tt
rest_first c n (x ∷ xs) ys trace h = (h.0, rest_first c n xs ys (more n x trace) h.1)

pub rest_last : (c : Config) (n : ℕ) (xs ys : List Told) (trace : List Line) → AllRest c n trace (xs ++ ys) → AllRest c n (told_onto n xs trace) ys
rest_last c n [] ys trace h = h
rest_last c n (x ∷ xs) ys trace h = rest_last c n xs ys (more n x trace) h.1

pub past_more : (c : Config) (n : ℕ) (x : Told) (trace : List Line) → Past c trace → MayTell c trace x → RestTold c trace x → Past c (more n x trace)
past_more c n x trace h k r = record { followed = (k, h.followed); rest = record { each = (r, h.rest.each); packs = h.rest.packs } }

pub past_onto : (c : Config) (n : ℕ) (xs : List Told) (trace : List Line) → Past c trace → AllTold c n trace xs → AllRest c n trace xs → Past c (told_onto n xs trace)
past_onto c n [] trace h k r = h
past_onto c n (x ∷ xs) trace h k r = past_onto c n xs (more n x trace) (past_more c n x trace h k.0 r.0) k.1 r.1

pub packet_onto : (c : Config) (n : ℕ) (xs : List Told) (trace : List Line) → Stays c → Past c trace → AllTold c n trace xs → AllRest c n trace xs → (p : Packet) → PacketFact c trace p → PacketFact c (told_onto n xs trace) p
packet_onto c n [] trace s h k r p fact = fact
packet_onto c n (x ∷ xs) trace s h k r p fact = packet_onto c n xs (more n x trace) s (past_more c n x trace h k.0 r.0) k.1 r.1 p (packet_stays c n x trace h.followed k.0 (s.all n x trace (record { past = h; may = k.0; rest = r.0 })) p fact)

-- ---- one part after another ----

written_then : (W : DiskWrite → Type 0) (a b : Option DiskWrite) → WrittenFact W a → WrittenFact NoWrite b → WrittenFact W (first_written a b)
written_then W (Some d) b h k = h
written_then W None None h k = tt
written_then W None (Some d) h k = absurd k

-- ---- of a site ----

pub at_append : (P : List Line → Told → Type 0) (n : ℕ) (xs ys : List Told) (trace : List Line) → AllAt P n trace xs → AllAt P n (told_onto n xs trace) ys → AllAt P n trace (xs ++ ys)
at_append P n [] ys trace h k = k
at_append P n (x ∷ xs) ys trace h k = (h.0, at_append P n xs ys (record { number = n; told = x } ∷ trace) h.1 k)

pub packets_onto : (c : Config) (n : ℕ) (xs : List Told) (trace : List Line) → Stays c → Past c trace → AllTold c n trace xs → AllRest c n trace xs → (ps : List Packet) → Every (PacketFact c trace) ps → Every (PacketFact c (told_onto n xs trace)) ps
packets_onto c n xs trace s h k fresh ps facts = every_weaker (PacketFact c trace) (PacketFact c (told_onto n xs trace)) ps (packet_onto c n xs trace s h k fresh) facts

pub site_then : (c : Config) (n : ℕ) (trace : List Line) (me : ℕ) (F G : List Line → SiteView → Type 0) (W : DiskWrite → Type 0) (o p : Outcome SiteView) → Stays c → Past c trace →
    AllRest c n trace (o.told ++ p.told) → SiteFine c n trace me F W o → SiteFine c n (told_onto n o.told trace) me G NoWrite p → SiteFine c n trace me G W (joined_to o p)
site_then c n trace me F G W o p s h fresh a b =
    let mid : List Line = told_onto n o.told trace in
    let same : told_onto n (o.told ++ p.told) trace ≡ told_onto n p.told mid = onto_append n o.told p.told trace in
    let followed : Past c mid = past_onto c n o.told trace h a.told (rest_first c n o.told p.told trace fresh) in
    record {
      told = told_append c n o.told p.told trace a.told b.told;
      own = at_append (λ t x. IsOf c t me x) n o.told p.told trace a.own b.own;
      view = subst (λ (t : List Line). G t p.view) (sym same) b.view;
      sent = subst (λ (t : List Line). Every (PacketFact c t) (joined_to o p).sent) (sym same) (every_append (PacketFact c (told_onto n p.told mid)) o.sent p.sent
          (packets_onto c n p.told mid s followed b.told (rest_last c n o.told p.told trace fresh) o.sent a.sent) b.sent);
      written = written_then W o.written p.written a.written b.written;
    }

-- ---- what other laws give of all lines ----

pub each_before : (c : Config) (n : ℕ) (xs : List Told) (trace : List Line) → EachRest c (told_onto n xs trace) → EachRest c trace
each_before c n [] trace h = h
each_before c n (x ∷ xs) trace h = (each_before c n xs (more n x trace) h).1

pub rest_before : (c : Config) (n : ℕ) (xs : List Told) (trace : List Line) → IsRest c (told_onto n xs trace) → IsRest c trace
rest_before c n xs trace h = record { each = each_before c n xs trace h.each; packs = h.packs }

each_told : (c : Config) (n : ℕ) (xs : List Told) (trace : List Line) → EachRest c (told_onto n xs trace) → AllRest c n trace xs
each_told c n [] trace h = tt
each_told c n (x ∷ xs) trace h = ((each_before c n xs (more n x trace) h).0, each_told c n xs (more n x trace) h)

pub rest_told : (c : Config) (n : ℕ) (xs : List Told) (trace : List Line) → IsRest c (told_onto n xs trace) → AllRest c n trace xs
rest_told c n xs trace h = each_told c n xs trace h.each
