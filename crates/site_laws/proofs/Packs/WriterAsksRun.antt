-- In every run changes are asked of what was asked to write.
use Rattle.std.proofs.Common.{◌≡◌, ℕ, ◌+◌, List, [], ◌∷◌, map, Some, None, refl, sym, ◌∙◌, ap, subst, inl, inr}
use Rattle.role_steps.proofs.of_plain_facts.Options.{some_same}
use Rattle.locus_ids.specs.declared.ids.FileId.{FileId}
use Rattle.locus_ids.specs.declared.config.Config.{Config}
use Rattle.schedule_lines.specs.declared.line.ScheduleLine.{ScheduleLine}
use Rattle.trace_book.specs.declared.record.Record.TheVariants as says
use Rattle.trace_book.specs.declared.record.StopCause.TheVariants as cause
use Rattle.call_rules.specs.declared.answer.Answer.{Answer}
use Rattle.call_rules.specs.declared.want.Want.{Want}
use Rattle.wire_messages.specs.declared.packet.Packet.{Packet}
use Rattle.wire_messages.specs.declared.body.Body.{Body}
use Rattle.wire_messages.specs.declared.body.Body.TheVariants as body
use Rattle.wire_messages.specs.declared.body.Opening.{Opening}
use Rattle.role_steps.specs.Own.{Every, IsOwn as IsSentBy, Sends}
use Rattle.role_steps.specs.Views.{SiteView, Told, Shown, Outcome, Receives}
use Rattle.role_steps.specs.declared.copies.FileCopy.{FileCopy}
use Rattle.role_steps.specs.declared.users.Asking.{Asking}
use Rattle.role_steps.specs.declared.users.Asking.TheVariants as asking
use Rattle.role_steps.specs.declared.users.WaitingCall.{WaitingCall}
use Rattle.the_run.specs.Disks.{Disk, Booted, Whole, CutOff, boots, cut_disk}
use Rattle.the_run.specs.Steps.{step}
use Rattle.the_run.specs.Worlds.{World, Place, Running, Stopped, Numbered, links_of, place_at, script_of as places_of, happened, cut_told, newest_onto, numbered_from, disk_of, puts, arms, passed, stops_with, cause_of, acts, fresh, formatted}
use Rattle.the_run.specs.Runs.{boots_as, packet_record, run_in}
use Rattle.the_run.specs.Kept.{Among, Kept}
use Rattle.the_run.proofs.Boots.{at_each, acts_cases, every_newest, every_weaker}
use Rattle.the_run.proofs.Events.{happened_keeps, puts_other, puts_same}
use Rattle.the_run.proofs.Runs.{every_run}
use Rattle.the_run.proofs.StepSends.{step_sends}
use Rattle.run_laws.proofs.Run.{found_among}
use Rattle.run_laws.proofs.Walks.FirstWorld.{first_views}
use Rattle.site_laws.specs.Packs.InstanceLaws.{AsksOpen}
use Rattle.site_laws.proofs.Packs.InstanceAgree.{run_serials}
use Rattle.site_laws.specs.Packs.WriterAsking.{NotToRead, AsksToWrite, IsAskedToWrite, AsksChange, ChangesAreAskedToWrite, ReadersChangeNothing, Serials, AnswersFact, AskingFact, script_of, WaitingFact, DescriptorFact, NotedBody, Noted, BodyFact, PacketFact, ViewFact, Fine}
use Rattle.site_laws.proofs.Packs.WriterSiteAsks.{step_gives}

-- ---- more is asked ----

answers_later : (G H : Serials) → ((n : ℕ) → G n → H n) → (script : List Answer → Want) (answers : List Answer) → AnswersFact G script answers → AnswersFact H script answers
answers_later G H l script [] h = tt
answers_later G H l script (a ∷ rest) h = (λ i asked opened. l i.serial (h.0 i asked opened), answers_later G H l (λ (xs : List Answer). script (a ∷ xs)) rest h.1)

asking_later : (G H : Serials) → ((n : ℕ) → G n → H n) → (x : Want) (a : Asking) → AskingFact G x a → AskingFact H x a
asking_later G H l x (asking.Open serial file how) h = λ to. l serial (h to)
asking_later G H l x (asking.Op serial ss n o seen) h = λ c. l serial (h c)
asking_later G H l x (asking.Look file what take) h = tt
asking_later G H l x (asking.Close serial ss) h = tt

waiting_later : (c : Config) (G H : Serials) → ((n : ℕ) → G n → H n) → (w : WaitingCall) → WaitingFact c G w → WaitingFact c H w
waiting_later c G H l w h = record {
  call_so = record { begins = λ i k. l i.serial (h.call_so.begins i k); answers = λ free. answers_later G H l (script_of c w free) w.answers (h.call_so.answers free) };
  asking = λ free. asking_later G H l (script_of c w free w.answers) w.asking (h.asking free);
}

view_later : (c : Config) (G H : Serials) → ((n : ℕ) → G n → H n) → (v : SiteView) → ViewFact c G v → ViewFact c H v
view_later c G H l v h = record {
  users = record {
    waiting = every_weaker (WaitingFact c G) (WaitingFact c H) v.users.waiting (waiting_later c G H l) h.users.waiting;
    descriptors = every_weaker (DescriptorFact G) (DescriptorFact H) v.users.descriptors (λ d k read. l d.descriptor.inst.serial (k read)) h.users.descriptors;
  };
  tables = h.tables;
}

-- ---- packets ----

-- by the packets that were sent, the serial numbers that a boot of a site has asked to write
abbrev asked_by : List Numbered → ℕ → ℕ → Serials
asked_by sent s boot serial = IsAskedToWrite sent s boot serial

abbrev pub Leads : List Numbered → List Numbered → Type 0
Leads old new = (x : Numbered) → Among x old → Among x new

asked_later : (old new : List Numbered) → Leads old new → (s boot n : ℕ) → IsAskedToWrite old s boot n → IsAskedToWrite new s boot n
asked_later old new l s boot n h = record { opening = h.opening; was_sent = l h.opening h.was_sent; site_is = h.site_is; boot_is = h.boot_is; asks = h.asks }

pub newest_leads : (xs sent : List Numbered) (x : Numbered) → Among x sent → Among x (newest_onto xs sent)
newest_leads [] sent x h = h
newest_leads (y ∷ ys) sent x h = newest_leads ys (y ∷ sent) x (inr h)

pub newest_has : (xs sent : List Numbered) (x : Numbered) → Among x xs → Among x (newest_onto xs sent)
newest_has [] sent x h = absurd h
newest_has (y ∷ ys) sent x (inl e) = newest_leads ys (y ∷ sent) x (inl e)
newest_has (y ∷ ys) sent x (inr h) = newest_has ys (y ∷ sent) x h

-- each packet that is sent now is among those that were sent
pub numbered_all : (P : Packet → Type 0) (k : ℕ) (ps : List Packet) → ((x : Numbered) → Among x (numbered_from k ps) → P x.packet) → Every P ps
numbered_all P k [] h = tt
numbered_all P k (p ∷ ps) h = (h (record { number = k; packet = p }) (inl refl), numbered_all P (k + 1) ps (λ x m. h x (inr m)))

numbered_own : (s boot k : ℕ) (ps : List Packet) → Every (IsSentBy s boot) ps → (x : Numbered) → Among x (numbered_from k ps) → IsSentBy s boot x.packet
numbered_own s boot k [] h x m = absurd m
numbered_own s boot k (p ∷ ps) h x (inl e) = subst (λ (y : Numbered). IsSentBy s boot y.packet) (sym e) h.0
numbered_own s boot k (p ∷ ps) h x (inr m) = numbered_own s boot (k + 1) ps h.1 x m

noted_body : (sent : List Numbered) (x : Numbered) (s boot : ℕ) (b : Body) → x.packet.body ≡ b → Among x sent → IsSentBy s boot x.packet → NotedBody (asked_by sent s boot) b
noted_body sent x s boot (body.Open serial call process request file opening) e m own = λ to. record { opening = x; was_sent = m; site_is = own.site; boot_is = own.number; asks = subst (AsksToWrite serial) (sym e) (refl, to) }
noted_body sent x s boot _ e m own = tt

-- ---- the world ----

abbrev PacketSo : List Numbered → Numbered → Type 0
PacketSo sent x = BodyFact (asked_by sent x.packet.from x.packet.from_boot) x.packet.body

record WorldFact (c : Config) (w : World) : Type 0 where
  views : (s : ℕ) (v : SiteView) → place_at w s ≡ Some (Running v) → ViewFact c (asked_by w.sent s v.boot) v
  packets : Every (PacketSo w.sent) w.sent

body_later : (G H : Serials) → ((n : ℕ) → G n → H n) → (b : Body) → BodyFact G b → BodyFact H b
body_later G H l (body.Op serial n o seen) h = λ c. l serial (h c)
body_later G H l _ h = tt

packets_later : (old new : List Numbered) → Leads old new → (xs : List Numbered) → Every (PacketSo old) xs → Every (PacketSo new) xs
packets_later old new l xs h = every_weaker (PacketSo old) (PacketSo new) xs (λ x. body_later (asked_by old x.packet.from x.packet.from_boot) (asked_by new x.packet.from x.packet.from_boot) (asked_later old new l x.packet.from x.packet.from_boot) x.packet.body) h

-- the packets of one boot of a site
own_packets : (sent : List Numbered) (s boot k : ℕ) (ps : List Packet) → Every (IsSentBy s boot) ps → Every (PacketFact (asked_by sent s boot)) ps → Every (PacketSo sent) (numbered_from k ps)
own_packets sent s boot k [] own h = tt
own_packets sent s boot k (p ∷ ps) own h = (subst (λ (t : ℕ). BodyFact (asked_by sent t p.from_boot) p.body) (sym own.0.site) (subst (λ (b : ℕ). BodyFact (asked_by sent s b) p.body) (sym own.0.number) h.0), own_packets sent s boot (k + 1) ps own.1 h.1)

-- what an event owes, by the packets that were sent before and now
record Owed (c : Config) (ps : List Packet) (change : World → World) (w : World) (now : List Numbered) : Type 0 where
  sent : Every (PacketSo now) (numbered_from (w.packets + 1) ps)
  views : (t : ℕ) (v : SiteView) → place_at (change w) t ≡ Some (Running v) → ViewFact c (asked_by now t v.boot) v

happened_fact : (c : Config) (n : ℕ) (ps : List Packet) (told : List Told) (change : World → World) (w : World) → (change w).sent ≡ w.sent → Owed c ps change w (newest_onto (numbered_from (w.packets + 1) ps) w.sent) → WorldFact c w → WorldFact c (happened n ps told change w)
happened_fact c n ps told change w sent owed f =
    happened_keeps (WorldFact c) n ps told change w f
    (λ l. record { views = f.views; packets = f.packets })
    (λ k b t. record {
      views = subst (λ (xs : List Numbered). (t : ℕ) (v : SiteView) → place_at (change w) t ≡ Some (Running v) → ViewFact c (asked_by xs t v.boot) v) same owed.views;
      packets = subst (λ (xs : List Numbered). Every (PacketSo xs) xs) same (every_newest (PacketSo now) new w.sent owed.sent (packets_later w.sent now (newest_leads new w.sent) w.sent f.packets));
    })
  where
    new : List Numbered
    new = numbered_from (w.packets + 1) ps

    now : List Numbered
    now = newest_onto new w.sent

    same : now ≡ newest_onto new (change w).sent
    same = ap (newest_onto new) (sym sent)

-- ---- one place ----

running_view : (v u : SiteView) → Running v ≡ Running u → v ≡ u
running_view v u e = cc

stopped_never : (d : Disk) (v : SiteView) → Stopped d ≡ Running v → ⊥
stopped_never d v e = cc

old_views : (c : Config) (w : World) (now : List Numbered) → Leads w.sent now → WorldFact c w → (t : ℕ) (v : SiteView) → place_at w t ≡ Some (Running v) → ViewFact c (asked_by now t v.boot) v
old_views c w now l f t v here = view_later c (asked_by w.sent t v.boot) (asked_by now t v.boot) (asked_later w.sent now l t v.boot) v (f.views t v here)

views_of : (c : Config) (s : ℕ) (new : Place) (w : World) (now : List Numbered) → Leads w.sent now → WorldFact c w → ((v : SiteView) → new ≡ Running v → ViewFact c (asked_by now s v.boot) v) → (t : ℕ) (v : SiteView) → place_at (puts s new w) t ≡ Some (Running v) → ViewFact c (asked_by now t v.boot) v
views_of c s new w now l f fine t v here = at_each s t (ViewFact c (asked_by now t v.boot) v)
    (λ e. subst (λ (n : ℕ). ViewFact c (asked_by now n v.boot) v) e (fine v (some_same new (Running v) (sym (puts_same s new w) ∙ (ap (place_at (puts s new w)) e ∙ here)))))
    (λ ne. old_views c w now l f t v (sym (puts_other s t new w ne) ∙ here))

same_leads : (xs : List Numbered) → Leads xs xs
same_leads xs x h = h

stops_fact : (c : Config) (n s : ℕ) (d : Disk) (told : List Told) (w : World) → WorldFact c w → WorldFact c (happened n [] told (stops_with s d) w)
stops_fact c n s d told w f = happened_fact c n [] told (stops_with s d) w refl (record { sent = tt; views = views_of c s (Stopped d) w w.sent (same_leads w.sent) f (λ v e. absurd (stopped_never d v e)) }) f

told_fact : (c : Config) (n : ℕ) (told : List Told) (w : World) → WorldFact c w → WorldFact c (happened n [] told (λ now. now) w)
told_fact c n told w f = happened_fact c n [] told (λ now. now) w refl (record { sent = tt; views = f.views }) f

acts_fact : (c : Config) (n s : ℕ) (v : SiteView) (o : Outcome SiteView) (w : World) → Sends s v.boot o → ((G : Serials) → ViewFact c G v → Every (Noted G) o.sent → Fine c G o) → place_at w s ≡ Some (Running v) → WorldFact c w → WorldFact c (acts n s v o w)
acts_fact c n s v o w own gives here f =
    acts_cases (WorldFact c) n s v o w
    (happened_fact c n o.sent o.told (λ now. puts s (Running o.view) now) w refl owed f)
    (λ a. happened_fact c n o.sent o.told (λ now. puts s (Running o.view) (arms a now)) w refl (record { sent = owed.sent; views = owed.views }) f)
    (λ d a e. stops_fact c n s (cut_disk v.boot v.store d a.how a.left) (cut_told s v.store d a.how a.left) w f)
  where
    new : List Numbered
    new = numbered_from (w.packets + 1) o.sent

    now : List Numbered
    now = newest_onto new w.sent

    G : Serials
    G = asked_by now s v.boot

    fine : Fine c G o
    fine = gives G (view_later c (asked_by w.sent s v.boot) G (asked_later w.sent now (newest_leads new w.sent) s v.boot) v (f.views s v here))
        (numbered_all (Noted G) (w.packets + 1) o.sent (λ x m. noted_body now x s v.boot x.packet.body refl (newest_has new w.sent x m) (numbered_own s v.boot (w.packets + 1) o.sent own.sent x m)))

    owed : Owed c o.sent (λ now. puts s (Running o.view) now) w now
    owed = record {
      sent = own_packets now s v.boot (w.packets + 1) o.sent own.sent fine.sent;
      views = views_of c s (Running o.view) w now (newest_leads new w.sent) f (λ u e. subst (λ (x : SiteView). ViewFact c (asked_by now s x.boot) x) (running_view o.view u e) (subst (λ (b : ℕ). ViewFact c (asked_by now s b) o.view) (sym own.view) fine.view));
    }

-- ---- a boot ----

fresh_fact : (c : Config) (G : Serials) (boot : ℕ) (copies : List FileCopy) → ViewFact c G (fresh boot copies)
fresh_fact c G boot copies = record { users = record { waiting = tt; descriptors = tt }; tables = tt }

boot_fact : (c : Config) (n s : ℕ) (x : Disk) (change : World → World) (w : World) → ((t : ℕ) → place_at (change w) t ≡ place_at (puts s (Running (fresh x.label.boot x.copies)) w) t) → (change w).sent ≡ w.sent → WorldFact c w → WorldFact c (happened n [] (Shown (says.Up s x.label.boot) ∷ []) change w)
boot_fact c n s x change w same sent f =
    happened_fact c n [] (Shown (says.Up s x.label.boot) ∷ []) change w sent (record {
      sent = tt;
      views = λ t v at. views_of c s (Running (fresh x.label.boot x.copies)) w w.sent (same_leads w.sent) f (λ u e. subst (λ (y : SiteView). ViewFact c (asked_by w.sent s y.boot) y) (running_view (fresh x.label.boot x.copies) u e) (fresh_fact c (asked_by w.sent s x.label.boot) x.label.boot x.copies)) t v (sym (same t) ∙ at);
    }) f

as_fact : (c : Config) (n s : ℕ) (b : Booted) (w : World) → WorldFact c w → WorldFact c (boots_as n s b w)
as_fact c n s (Whole x None) w f = boot_fact c n s x _ w (λ t. refl) refl f
as_fact c n s (Whole x (Some a)) w f = boot_fact c n s x _ w (λ t. refl) refl f
as_fact c n s (CutOff x how) w f = stops_fact c n s x (Shown (says.Stopped s (cause_of how)) ∷ []) w f

-- ---- every event and change ----

asks_kept : (c : Config) → Kept c (WorldFact c)
asks_kept c = record {
  steps = λ n s e v w here own f. acts_fact c n s v (step c s (links_of w s) v e) w (step_sends c s v.boot (links_of w s) v e refl) (λ G h noted. step_gives c G s (links_of w s) v e h noted) here f;
  receives = λ n x v w here sent f. acts_fact c n x.packet.to v (step c x.packet.to (links_of (passed x.number w) x.packet.to) v (Receives x.packet)) (passed x.number w) (step_sends c x.packet.to v.boot (links_of (passed x.number w) x.packet.to) v (Receives x.packet) refl) (λ G h noted. step_gives c G x.packet.to (links_of (passed x.number w) x.packet.to) v (Receives x.packet) h noted) here (record { views = f.views; packets = f.packets });
  passes = λ k w f. record { views = f.views; packets = f.packets };
  drops = λ k w f. record { views = f.views; packets = f.packets };
  recuts = λ xs w f. record { views = f.views; packets = f.packets };
  arming = λ a w f. record { views = f.views; packets = f.packets };
  voiding = λ n w f. told_fact c n (Shown says.Void ∷ []) w f;
  budgets = λ n w f. told_fact c n (Shown says.Budget ∷ []) w f;
  pending = λ n w f. told_fact c n (map packet_record w.underway) w f;
  stopping = λ n s v w here f. stops_fact c n s (disk_of v) (Shown (says.Stopped s cause.Asked) ∷ []) w f;
  booting = λ n s d w here f. as_fact c n s (boots (places_of w s) d) w f;
}

-- ---- the first world ----

-- ---- the laws ----

run_asks : (c : Config) (lines : List ScheduleLine) → WorldFact c (run_in c lines)
run_asks c lines = every_run c (WorldFact c) (asks_kept c) (record { views = first_views c (λ s v. ViewFact c (asked_by [] s v.boot) v) (λ s own. fresh_fact c (asked_by [] s 1) 1 (formatted c s)); packets = tt }) lines

change_asked : (G : Serials) (b : Body) (serial : ℕ) → BodyFact G b → AsksChange serial b → G serial
change_asked G (body.Op number n o seen) serial h k = subst G k.0 (h k.1)
change_asked G _ serial h k = absurd k

pub run_changes : (c : Config) (lines : List ScheduleLine) → ChangesAreAskedToWrite (run_in c lines)
run_changes c lines x serial m k =
    let f : WorldFact c (run_in c lines) = run_asks c lines in
    change_asked (asked_by (run_in c lines).sent x.packet.from x.packet.from_boot) x.packet.body serial (found_among (PacketSo (run_in c lines).sent) x (run_in c lines).sent f.packets m) k

-- the open that was asked to write
asks_open : (serial : ℕ) (b : Body) → AsksToWrite serial b → (file : FileId) × (how : Opening) × AsksOpen serial file how b × NotToRead how
asks_open serial (body.Open number call process request file opening) h = (file, opening, (h.0, refl, refl), h.1)
asks_open serial _ h = absurd h

pub run_readers : (c : Config) (lines : List ScheduleLine) → ReadersChangeNothing (run_in c lines)
run_readers c lines x y serial file opening a b from boot k o =
    let r : IsAskedToWrite (run_in c lines).sent x.packet.from x.packet.from_boot serial = run_changes c lines x serial a k in
    let q : (g : FileId) × (how : Opening) × AsksOpen serial g how r.opening.packet.body × NotToRead how = asks_open serial r.opening.packet.body r.asks in
    subst NotToRead (run_serials c lines r.opening y serial q.0 file q.1 opening r.was_sent b (r.site_is ∙ from) (r.boot_is ∙ boot) q.2 o).1 q.3
