-- Instances that storage sites are asked to open are of the sixteen sites.
use Rattle.std.proofs.Common.{◌≡◌, ◌≤◌, ◌⊎◌, ℕ, List, [], ◌∷◌, length, sym, ◌∙◌, ap, subst, inl, inr, Option}
use Rattle.locus_ids.specs.declared.config.Config.{Config}
use Rattle.locus_ids.specs.declared.ids.CallId.{CallId}
use Rattle.locus_ids.specs.declared.ids.EpochId.{EpochId}
use Rattle.locus_ids.specs.declared.ids.FileId.{FileId}
use Rattle.locus_ids.specs.declared.ids.Kind.{Kind}
use Rattle.locus_ids.specs.declared.ids.Mode.{Mode}
use Rattle.locus_ids.specs.declared.ids.Mode.TheVariants as mode
use Rattle.locus_ids.specs.declared.ids.Serial.{Serial}
use Rattle.locus_ids.specs.declared.ids.Stamp.{Stamp}
use Rattle.locus_ids.specs.declared.sites.Sites.{Sites}
use Rattle.trace_book.specs.declared.record.Record.{Record}
use Rattle.trace_book.specs.declared.record.Record.TheVariants as says
use Rattle.role_steps.specs.Views.{Told, Shown, Begins}
use Rattle.the_run.specs.Worlds.{Line}
use Rattle.site_laws.specs.Vectors.HistoryCommits.{IsSite}
use Rattle.lawful_trace.specs.TreeRows.{IsCallIn}
use Rattle.tree_laws.specs.Following.{IsFollowed, MayTell, MayBegin, BeginsGranted, BeginsMade}
use Rattle.tree_laws.specs.Packets.{MakeOpenSs, OpenSsFact, PlainOpenSs}
use Rattle.tree_laws.specs.Past.{BeginsIt, NamingRecord, Printed, WasBegun, WasGranted, WasNamed, WasRefused, GrantRecord, RefusalRecord}
use Rattle.tree_laws.specs.Printed.{entries}
use Rattle.tree_laws.proofs.Grants.{open_named}
use Rattle.store_laws.specs.OneTree.Rest.{EachRest, Past}
use Rattle.rest_laws.proofs.StoreStepKnown.{known_call}
use Rattle.schedule_lines.specs.declared.line.ScheduleLine.{ScheduleLine}
use Rattle.wire_messages.specs.declared.body.Body.{Body}
use Rattle.wire_messages.specs.declared.body.Body.TheVariants as body
use Rattle.wire_messages.specs.declared.packet.Packet.{Packet}
use Rattle.the_run.specs.Kept.{WasSent}
use Rattle.the_run.specs.Runs.{run_in}
use Rattle.the_run.specs.Worlds.{Numbered}
use Rattle.store_laws.specs.of_row_laws.Voids.{LinesFit}
use Rattle.tree_laws.specs.Orders.Joining.{PacksAreOfSites}
use Rattle.tree_laws.specs.Packets.{BodyFact}
use Rattle.store_laws.proofs.OneTree.Run.{sent_fact}
use Rattle.rest_laws.specs.Fits.Opens.{OpensForSite}
use Rattle.rest_laws.proofs.Fits.Tables.{past_of_run, world_of}

caller : (c : Config) (t : List Line) → Past c t → (e : EpochId) (d : CallId) (i : Serial) → i.us ≡ d.site → IsCallIn (entries t) e d → IsSite i.us
caller c t past e d i user inside = subst IsSite (sym user) (known_call c t past.followed past.rest.each d inside.accepted inside.named).site

-- ---- what was named ----

pub named_sited : (c : Config) (t : List Line) → IsFollowed c t → EachRest c t → (e : EpochId) (i : Serial) → WasNamed t e i → IsSite i.us
named_sited c [] h g e i k = absurd k
named_sited c (x ∷ older) h g e i (inr k) = named_sited c older h.1 g.1 e i k
named_sited c (x ∷ older) h g e i (inl k) = over x.told h.0 k
  where
    called : (at : EpochId) (d : CallId) (inst : Serial) → inst ≡ i → inst.us ≡ d.site → IsCallIn (entries older) at d → IsSite i.us
    called at d inst is user inside = subst IsSite (sym user ∙ ap (λ (j : Serial). j.us) is) (known_call c older h.1 g.1 d inside.accepted inside.named).site

    of : (r : Record) → MayTell c older (Shown r) → NamingRecord e i older r → IsSite i.us
    of (says.Grant at call request inst m file stamp ss) may k = called at call inst k.serial_is may.in_time.opens.user_is may.in_time.opens.asks.inside
    of (says.Refuse at call request inst m file why) may k = called at call inst k.serial_is may.in_time.opens.user_is may.in_time.opens.asks.inside
    of r may k = absurd k

    over : (y : Told) → MayTell c older y → Printed (NamingRecord e i) older y → IsSite i.us
    over (Shown r) may k = of r may k
    over y may k = absurd k

pub granted_named : (t : List Line) (e : EpochId) (d : CallId) (request : ℕ) (i : Serial) (m : Mode) (f : FileId) (stamp : Option Stamp) (ss : ℕ) → WasGranted t e d request i m f stamp ss → WasNamed t e i
granted_named [] e d request i m f stamp ss k = k
granted_named (x ∷ older) e d request i m f stamp ss (inr k) = inr (granted_named older e d request i m f stamp ss k)
granted_named (x ∷ older) e d request i m f stamp ss (inl k) = inl (over x.told k)
  where
    of : (r : Record) → GrantRecord e d request i m f stamp ss older r → NamingRecord e i older r
    of (says.Grant at call number inst mode file on place) k = record { epoch_is = k.epoch_is; serial_is = k.serial_is }
    of r k = absurd k

    over : (y : Told) → Printed (GrantRecord e d request i m f stamp ss) older y → Printed (NamingRecord e i) older y
    over (Shown r) k = of r k
    over y k = absurd k

pub refused_named : (t : List Line) (e : EpochId) (d : CallId) (request : ℕ) (i : Serial) (m : Mode) (why : _) → WasRefused t e d request i m why → WasNamed t e i
refused_named [] e d request i m why k = k
refused_named (x ∷ older) e d request i m why (inr k) = inr (refused_named older e d request i m why k)
refused_named (x ∷ older) e d request i m why (inl k) = inl (over x.told k)
  where
    of : (r : Record) → RefusalRecord e d request i m why older r → NamingRecord e i older r
    of (says.Refuse at call number inst mode file reason) k = record { epoch_is = k.epoch_is; serial_is = k.serial_is }
    of r k = absurd k

    over : (y : Told) → Printed (RefusalRecord e d request i m why) older y → Printed (NamingRecord e i) older y
    over (Shown r) k = of r k
    over y k = absurd k

-- ---- what was begun ----

pub begun_sited : (c : Config) (t : List Line) → Past c t → (s : ℕ) (e : EpochId) (i : Serial) (f : FileId) → WasBegun t s e i f → IsSite i.us
begun_sited c t past s e i f k = along t past.followed past.rest.each k
  where
    along : (t : List Line) → IsFollowed c t → EachRest c t → WasBegun t s e i f → IsSite i.us
    along [] h g k = absurd k
    along (x ∷ older) h g (inr k) = along older h.1 g.1 k
    along (x ∷ older) h g (inl k) = over x.told h.0 k
      where
        made : (z : ℕ) (at : EpochId) (inst : Serial) (file : FileId) → MayBegin c older z at inst file → IsSite inst.us
        made z at inst file may = by may.may
          where
            by : BeginsGranted c older z at inst file ⊎ BeginsMade c older z at inst file → IsSite inst.us
            by (inl b) = named_sited c older h.1 g.1 at inst (open_named c older at inst b.at b.open_at.found)
            by (inr b) = subst IsSite (sym b.user_is) (known_call c older h.1 g.1 b.call b.asks.inside.accepted b.asks.inside.named).site

        over : (y : Told) → MayTell c older y → BeginsIt s e i f older y → IsSite i.us
        over (Begins z at inst file) may k = subst IsSite (ap (λ (j : Serial). j.us) k.serial_is) (made z at inst file may)
        over y may k = absurd k

-- ---- what is asked of a storage site ----

make_sited : (c : Config) (t : List Line) → Past c t → (e : EpochId) (ss : ℕ) (i : Serial) (group : ℕ) (set : Sites) (k : Kind) → MakeOpenSs c t e ss i group set k → IsSite i.us
make_sited c t past e ss i group set k (inl b) = begun_sited c t past ss e i b.0 b.1
make_sited c t past e ss i group set k (inr (inl r)) = named_sited c t past.followed past.rest.each e i (refused_named t e r.call r.request i mode.Make _ r.was_refused)
make_sited c t past e ss i group set k (inr (inr m)) = caller c t past e m.call i m.user_is m.asks.inside

plain_sited : (c : Config) (t : List Line) → Past c t → (e : EpochId) (ss : ℕ) (i : Serial) (f : FileId) (m : Mode) (set : Sites) (k : Kind) (base : Stamp) (vector : List ℕ) (parents : List Stamp) → PlainOpenSs c t e ss i f m set k base vector parents → IsSite i.us
plain_sited c t past e ss i f m set k base vector parents p = named_sited c t past.followed past.rest.each e i (granted_named t e p.call p.request i m f p.stamp ss p.was_granted)

pub opens_sited : (c : Config) (t : List Line) → Past c t → (e : EpochId) (ss : ℕ) (i : Serial) (f : FileId) (m : Mode) (set : Sites) (k : Kind) (base : Stamp) (vector : List ℕ) (parents : List Stamp) → OpenSsFact c t e ss i f m set k base vector parents → IsSite i.us
opens_sited c t past e ss i f mode.Make set k base vector parents h = make_sited c t past e ss i f.group set k h.0
opens_sited c t past e ss i f mode.Read set k base vector parents h = plain_sited c t past e ss i f mode.Read set k base vector parents h
opens_sited c t past e ss i f mode.Write set k base vector parents h = plain_sited c t past e ss i f mode.Write set k base vector parents h
opens_sited c t past e ss i f mode.Resolve set k base vector parents h = plain_sited c t past e ss i f mode.Resolve set k base vector parents h
opens_sited c t past e ss i f mode.Mend set k base vector parents h = plain_sited c t past e ss i f mode.Mend set k base vector parents h

pub body_opens : (c : Config) (t : List Line) → Past c t → (p : Packet) (b : Body) → BodyFact c t p b → OpensForSite b
body_opens c t past p (body.OpenSs inst file m set kind base vector parents) h = opens_sited c t past p.epoch p.to inst file m set kind base vector parents h
body_opens c t past p _ h = tt

pub run_opens : (c : Config) (lines : List ScheduleLine) → LinesFit c lines → PacksAreOfSites c → length c.packs ≤ 4 → (x : Numbered) → WasSent (run_in c lines) x → OpensForSite x.packet.body
run_opens c lines fit packs few x was = body_opens c (run_in c lines).trace (past_of_run c lines fit packs few) x.packet x.packet.body (sent_fact c (run_in c lines) x (world_of c lines fit packs few) was)
