-- In every run no site joins an epoch twice.
use Rattle.std.proofs.Common.{◌≡◌, ℕ, ◌+◌, ◌==◌, ◌≤◌, ◌⊎◌, Bool, true, false, cond, List, [], ◌∷◌, ◌++◌, map, Some, None, refl, sym, ◌∙◌, ap, subst, inl, inr, arith}
use Rattle.std.proofs.lemmas.Bool.Decides.{nat_tests}
use Rattle.run_laws.proofs.of_plain_facts.Numbers.{at_most_of, equal, equal_self}
use Rattle.run_laws.proofs.of_plain_facts.Options.{some_same}
use Rattle.locus_ids.specs.declared.ids.EpochId.{EpochId}
use Rattle.locus_ids.specs.declared.sites.Members.{Members}
use Rattle.locus_ids.specs.declared.config.Config.{Config}
use Rattle.schedule_lines.specs.declared.line.ScheduleLine.{ScheduleLine}
use Rattle.trace_book.specs.declared.record.Record.{Record}
use Rattle.trace_book.specs.declared.record.Record.TheVariants as says
use Rattle.trace_book.specs.declared.record.StopCause.{StopCause}
use Rattle.trace_book.specs.declared.record.StopCause.TheVariants as cause
use Rattle.wire_messages.specs.declared.packet.Packet.{Packet}
use Rattle.role_steps.specs.Own.{Every}
use Rattle.role_steps.specs.Epochs.{is_epoch_below}
use Rattle.role_steps.specs.Views.{SiteView, Told, Shown, DiskWrite, Outcome, Receives, boot_in}
use Rattle.role_steps.proofs.Sending.{every_map}
use Rattle.the_run.specs.Disks.{Disk, Booted, Whole, CutOff, boots, cut_disk, is_on_disk}
use Rattle.the_run.specs.Steps.{step}
use Rattle.the_run.specs.Joins.{IsJoinRecord, IsJoin, Joined, OneList}
use Rattle.the_run.specs.Worlds.{World, Place, Running, Stopped, Numbered, Line, links_of, place_at, script_of, happened, disk_of, puts, arms, passed, stops_with, cause_of, acts, fresh}
use Rattle.the_run.specs.Runs.{boots_as, packet_record, run_in}
use Rattle.the_run.specs.Kept.{Kept}
use Rattle.the_run.proofs.Boots.{at_each, acts_cases, Reached, boots_reached}
use Rattle.the_run.proofs.Events.{happened_keeps, puts_other, puts_same}
use Rattle.the_run.proofs.OneList.{one_list}
use Rattle.the_run.proofs.Runs.{every_run}
use Rattle.run_laws.specs.Standing.{IsUp, StaysUp, JoinsRise, joins_line}
use Rattle.run_laws.specs.Words.{InsideRecord, InsideWrite}
use Rattle.run_laws.proofs.Rises.{run_joins_rise}
use Rattle.site_laws.specs.Vectors.Written.{past_of}
use Rattle.site_laws.specs.Vectors.Facts.{onto}
use Rattle.site_laws.proofs.Vectors.FactsRun.{past_onto}
use Rattle.run_laws.proofs.Walks.FirstWorld.{first_places}
use Rattle.site_laws.specs.Locks.Joins.{WasJoined, FirstRecord, FirstJoin, JoinsAreOnce, boot_record, boot_told, ListsBoot, BootRecord, BootGoesOn, BootsGoOn}
use Rattle.site_laws.proofs.Locks.JoinFacts.{JoinRecord, JoinTold, Stays, Keeps, step_keeps}

-- ---- what is told, by boots ----

-- an event of a running site boots none
record_same : (s me boot now : ℕ) (r : Record) → JoinRecord me boot r → boot_record s r now ≡ now
record_same s me boot now (says.Up t b) h = absurd h
record_same s me boot now _ h = refl

boot_same : (s me boot : ℕ) (x : Told) (past : List Told) → JoinTold me boot x → boot_told s (x ∷ past) ≡ boot_told s past
boot_same s me boot (Shown r) past h = record_same s me boot (boot_told s past) r h
boot_same s me boot _ past h = refl

boots_same : (s me boot : ℕ) (told past : List Told) → Every (JoinTold me boot) told → boot_told s (onto told past) ≡ boot_told s past
boots_same s me boot [] past h = refl
boots_same s me boot (x ∷ xs) past h = boots_same s me boot xs (x ∷ past) h.1 ∙ boot_same s me boot x past h.0

abbrev AllGoOn : List Told → List Told → Type 0
AllGoOn past [] = Unit {0}
AllGoOn past (x ∷ xs) = BootGoesOn past x × AllGoOn (x ∷ past) xs

record_goes : (me : ℕ) (past : List Told) (r : Record) → JoinRecord me (boot_told me past) r → BootRecord past r
record_goes me past (says.Join t id m) h = subst (λ (s : ℕ). ListsBoot s id m (boot_told s past)) (sym h.0) h.1
record_goes me past (says.Up t b) h = absurd h
record_goes me past _ h = tt

one_goes : (me : ℕ) (past : List Told) (x : Told) → JoinTold me (boot_told me past) x → BootGoesOn past x
one_goes me past (Shown r) h = record_goes me past r h
one_goes me past _ h = tt

told_go : (me : ℕ) (told past : List Told) → Every (JoinTold me (boot_told me past)) told → AllGoOn past told
told_go me [] past h = tt
told_go me (x ∷ xs) past h = (one_goes me past x h.0, told_go me xs (x ∷ past) (subst (λ (b : ℕ). Every (JoinTold me b) xs) (sym (boot_same me me (boot_told me past) x past h.0)) h.1))

all_go : (told past : List Told) → AllGoOn past told → BootsGoOn past → BootsGoOn (onto told past)
all_go [] past h g = g
all_go (x ∷ xs) past h g = all_go xs (x ∷ past) h.1 (h.0, g)

-- ---- the world ----

-- a running site has the boot that it told last; a disk may have reached a greater one in a boot that was cut off
abbrev PlaceFact : List Told → ℕ → Place → Type 0
PlaceFact past s (Running v) = Stays s (boot_told s past) v
PlaceFact past s (Stopped d) = boot_told s past ≤ d.label.boot

record BootFact (w : World) : Type 0 where
  goes : BootsGoOn (past_of w.trace)
  places : (s : ℕ) (p : Place) → place_at w s ≡ Some p → PlaceFact (past_of w.trace) s p

place_told : (a b : List Told) (s : ℕ) (p : Place) → boot_told s b ≡ boot_told s a → PlaceFact a s p → PlaceFact b s p
place_told a b s (Running v) e h = subst (λ (n : ℕ). Stays s n v) (sym e) h
place_told a b s (Stopped d) e h = subst (λ (n : ℕ). n ≤ d.label.boot) (sym e) h

happened_fact : (n : ℕ) (ps : List Packet) (told : List Told) (change : World → World) (w : World) → AllGoOn (past_of w.trace) told → ((s : ℕ) (p : Place) → place_at (change w) s ≡ Some p → PlaceFact (onto told (past_of w.trace)) s p) → BootFact w → BootFact (happened n ps told change w)
happened_fact n ps told change w go places f =
    happened_keeps BootFact n ps told change w f
    (λ l. record { goes = f.goes; places = f.places })
    (λ k b t. record {
      goes = subst BootsGoOn (sym (past_onto n told w.trace)) (all_go told (past_of w.trace) go f.goes);
      places = λ s p here. subst (λ (x : List Told). PlaceFact x s p) (sym (past_onto n told w.trace)) (places s p here);
    })

-- where no site boots
old_places : (me boot : ℕ) (told : List Told) (w : World) → Every (JoinTold me boot) told → BootFact w → (s : ℕ) (p : Place) → place_at w s ≡ Some p → PlaceFact (onto told (past_of w.trace)) s p
old_places me boot told w h f s p here = place_told (past_of w.trace) (onto told (past_of w.trace)) s p (boots_same s me boot told (past_of w.trace) h) (f.places s p here)

places_of : (me boot s : ℕ) (new : Place) (told : List Told) (w : World) → Every (JoinTold me boot) told → PlaceFact (past_of w.trace) s new → BootFact w → (t : ℕ) (p : Place) → place_at (puts s new w) t ≡ Some p → PlaceFact (onto told (past_of w.trace)) t p
places_of me boot s new told w h fine f t p here = at_each s t (PlaceFact (onto told (past_of w.trace)) t p)
    (λ e. place_told (past_of w.trace) (onto told (past_of w.trace)) t p (boots_same t me boot told (past_of w.trace) h) (subst (λ (n : ℕ). PlaceFact (past_of w.trace) n p) e (subst (PlaceFact (past_of w.trace) s) (some_same new p (sym (puts_same s new w) ∙ (ap (place_at (puts s new w)) e ∙ here))) fine)))
    (λ ne. old_places me boot told w h f t p (sym (puts_other s t new w ne) ∙ here))

told_fact : (n : ℕ) (told : List Told) (w : World) → ((me boot : ℕ) → Every (JoinTold me boot) told) → BootFact w → BootFact (happened n [] told (λ now. now) w)
told_fact n told w h f = happened_fact n [] told (λ now. now) w (told_go 0 told (past_of w.trace) (h 0 (boot_told 0 (past_of w.trace)))) (old_places 0 0 told w (h 0 0) f) f

stops_fact : (n s : ℕ) (d : Disk) (told : List Told) (w : World) → Every (JoinTold s (boot_told s (past_of w.trace))) told → boot_told s (past_of w.trace) ≤ d.label.boot → BootFact w → BootFact (happened n [] told (stops_with s d) w)
stops_fact n s d told w h le f = happened_fact n [] told (stops_with s d) w (told_go s told (past_of w.trace) h) (places_of s (boot_told s (past_of w.trace)) s (Stopped d) told w h le f) f

inside_says : (me boot : ℕ) (r : Record) → InsideRecord r → JoinRecord me boot r
inside_says me boot (says.Join t id m) h = absurd h
inside_says me boot (says.Up t b) h = absurd h
inside_says me boot _ h = tt

cut_fact : (n s : ℕ) (d : DiskWrite) (disk : Disk) (how : StopCause) (b : Bool) (w : World) → InsideWrite (Some d) → boot_told s (past_of w.trace) ≤ disk.label.boot → BootFact w → BootFact (happened n [] (cond b (Shown d.says ∷ Shown (says.Stopped s how) ∷ []) (Shown (says.Stopped s how) ∷ [])) (stops_with s disk) w)
cut_fact n s d disk how true w k le f = stops_fact n s disk (Shown d.says ∷ Shown (says.Stopped s how) ∷ []) w (inside_says s (boot_told s (past_of w.trace)) d.says k, (tt, tt)) le f
cut_fact n s d disk how false w k le f = stops_fact n s disk (Shown (says.Stopped s how) ∷ []) w (tt, tt) le f

least : (a b : ℕ) → a ≡ b → b ≤ a
least a b e = omega (arith, e)

acts_fact : (n s : ℕ) (v : SiteView) (o : Outcome SiteView) (w : World) → place_at w s ≡ Some (Running v) → (Stays s (boot_told s (past_of w.trace)) v → Keeps s (boot_told s (past_of w.trace)) o) → BootFact w → BootFact (acts n s v o w)
acts_fact n s v o w here step f =
    let before : Stays s (boot_told s (past_of w.trace)) v = f.places s (Running v) here in
    let k : Keeps s (boot_told s (past_of w.trace)) o = step before in
    acts_cases BootFact n s v o w
    (happened_fact n o.sent o.told (λ now. puts s (Running o.view) now) w (told_go s o.told (past_of w.trace) k.told) (places_of s (boot_told s (past_of w.trace)) s (Running o.view) o.told w k.told k.view f) f)
    (λ a. happened_fact n o.sent o.told (λ now. puts s (Running o.view) (arms a now)) w (told_go s o.told (past_of w.trace) k.told) (places_of s (boot_told s (past_of w.trace)) s (Running o.view) o.told w k.told k.view f) f)
    (λ d a e. cut_fact n s d (cut_disk v.boot v.store d a.how a.left) (cause_of a.how) (is_on_disk v.store d a.how a.left) w (subst InsideWrite e k.written) (least v.boot (boot_told s (past_of w.trace)) before.boot_is) f)

-- ---- a boot ----

own_up : (s boot now : ℕ) → cond (s == s) boot now ≡ boot
own_up s boot now = subst (λ (b : Bool). cond b boot now ≡ boot) (sym (equal_self s)) refl

other_up : (s t boot now : ℕ) → (s ≡ t → ⊥) → cond (s == t) boot now ≡ now
other_up s t boot now ne = (elim (s == t) as (λ b. (s == t) ≡ b → cond b boot now ≡ now) [ true ↦ λ e. absurd (ne (equal s t e)) | false ↦ λ e. refl ]) refl

fresh_stays : (s boot : ℕ) (x : Disk) → x.label.boot ≡ boot → Stays s boot (fresh x.label.boot x.copies)
fresh_stays s boot x e = record { boot_is = e; round = tt; tables = tt }

up_fact : (n s : ℕ) (x : Disk) (change : World → World) (w : World) → boot_told s (past_of w.trace) + 1 ≤ x.label.boot → ((t : ℕ) → place_at (change w) t ≡ place_at (puts s (Running (fresh x.label.boot x.copies)) w) t) → BootFact w →
    BootFact (happened n [] (Shown (says.Up s x.label.boot) ∷ []) change w)
up_fact n s x change w le same f = happened_fact n [] (Shown (says.Up s x.label.boot) ∷ []) change w (le, tt) places f
  where
    past : List Told
    past = past_of w.trace

    view : SiteView
    view = fresh x.label.boot x.copies

    places : (t : ℕ) (p : Place) → place_at (change w) t ≡ Some p → PlaceFact (Shown (says.Up s x.label.boot) ∷ past) t p
    places t p here = at_each s t (PlaceFact (Shown (says.Up s x.label.boot) ∷ past) t p)
        (λ e. subst (λ (u : ℕ). PlaceFact (Shown (says.Up s x.label.boot) ∷ past) u p) e (subst (PlaceFact (Shown (says.Up s x.label.boot) ∷ past) s) (some_same (Running view) p (sym (puts_same s (Running view) w) ∙ (sym (same s) ∙ (ap (place_at (change w)) e ∙ here)))) (fresh_stays s (boot_told s (Shown (says.Up s x.label.boot) ∷ past)) x (sym (own_up s x.label.boot (boot_told s past))))))
        (λ ne. place_told past (Shown (says.Up s x.label.boot) ∷ past) t p (other_up s t x.label.boot (boot_told t past) ne) (f.places t p (sym (puts_other s t (Running view) w ne) ∙ (sym (same t) ∙ here))))

above : (a b c : ℕ) → a ≤ b → b + 1 ≤ c → a + 1 ≤ c
above a b c h g = omega (arith, h, g)

as_fact : (n s : ℕ) (d : Disk) (b : Booted) (w : World) → place_at w s ≡ Some (Stopped d) → Reached d.label.boot (d.label.boot + 1) b → BootFact w → BootFact (boots_as n s b w)
as_fact n s d (Whole x None) w here r f = up_fact n s x _ w (above (boot_told s (past_of w.trace)) d.label.boot x.label.boot (f.places s (Stopped d) here) r) (λ t. refl) f
as_fact n s d (Whole x (Some a)) w here r f = up_fact n s x _ w (above (boot_told s (past_of w.trace)) d.label.boot x.label.boot (f.places s (Stopped d) here) r) (λ t. refl) f
as_fact n s d (CutOff x how) w here r f = stops_fact n s x (Shown (says.Stopped s (cause_of how)) ∷ []) w (tt, tt) (at_most_of (boot_told s (past_of w.trace)) d.label.boot x.label.boot (f.places s (Stopped d) here) r) f

-- ---- every event and change ----

packets_told : (xs : List Numbered) (me boot : ℕ) → Every (JoinTold me boot) (map packet_record xs)
packets_told xs me boot = every_map (JoinTold me boot) packet_record xs (λ x. tt)

boot_kept : (c : Config) → Kept c BootFact
boot_kept c = record {
  steps = λ n s e v w here own g. acts_fact n s v (step c s (links_of w s) v e) w here (step_keeps c s (boot_told s (past_of w.trace)) (links_of w s) v e) g;
  receives = λ n x v w here sent g. acts_fact n x.packet.to v (step c x.packet.to (links_of (passed x.number w) x.packet.to) v (Receives x.packet)) (passed x.number w) here (step_keeps c x.packet.to (boot_told x.packet.to (past_of w.trace)) (links_of (passed x.number w) x.packet.to) v (Receives x.packet)) (record { goes = g.goes; places = g.places });
  passes = λ k w g. record { goes = g.goes; places = g.places };
  drops = λ k w g. record { goes = g.goes; places = g.places };
  recuts = λ xs w g. record { goes = g.goes; places = g.places };
  arming = λ a w g. record { goes = g.goes; places = g.places };
  voiding = λ n w g. told_fact n (Shown says.Void ∷ []) w (λ me boot. (tt, tt)) g;
  budgets = λ n w g. told_fact n (Shown says.Budget ∷ []) w (λ me boot. (tt, tt)) g;
  pending = λ n w g. told_fact n (map packet_record w.underway) w (packets_told w.underway) g;
  stopping = λ n s v w here g. (let k : Stays s (boot_told s (past_of w.trace)) v = g.places s (Running v) here in stops_fact n s (disk_of v) (Shown (says.Stopped s cause.Asked) ∷ []) w (tt, tt) (least v.boot (boot_told s (past_of w.trace)) k.boot_is) g);
  booting = λ n s d w here g. as_fact n s d (boots (script_of w s) d) w here (boots_reached (script_of w s) d) g;
}

run_boots : (c : Config) (lines : List ScheduleLine) → BootsGoOn (past_of (run_in c lines).trace)
run_boots c lines = let f : BootFact (run_in c lines) = every_run c BootFact (boot_kept c) (record { goes = tt; places = first_places c (PlaceFact []) (λ s own. record { boot_is = refl; round = tt; tables = tt }) }) lines in f.goes

-- ---- boots rise ----

record_rises : (s : ℕ) (past : List Told) (r : Record) → BootRecord past r → boot_told s past ≤ boot_record s r (boot_told s past)
record_rises s past (says.Up t b) h =
    (elim (t == s) as (λ x. (t == s) ≡ x → boot_told s past ≤ cond x b (boot_told s past)) [
      | true ↦ λ e. (let k : boot_told s past + 1 ≤ b = subst (λ (u : ℕ). boot_told u past + 1 ≤ b) (equal t s e) h in omega (arith, k))
      | false ↦ λ e. omega arith
    ]) refl
record_rises s past _ h = omega arith

told_rises : (s : ℕ) (past : List Told) (x : Told) → BootGoesOn past x → boot_told s past ≤ boot_told s (x ∷ past)
told_rises s past (Shown r) h = record_rises s past r h
told_rises s past _ h = omega arith

positive : (s : ℕ) (past : List Told) → BootsGoOn past → 1 ≤ boot_told s past
positive s [] h = omega arith
positive s (x ∷ past) h = at_most_of 1 (boot_told s past) (boot_told s (x ∷ past)) (positive s past h.1) (told_rises s past x h.0)

-- ---- an earlier join ----

record_is : (s : ℕ) (id : EpochId) (m : Members) (r : Record) → IsJoinRecord s id m r → r ≡ says.Join s id m
record_is s id m (says.Join t i n) h = λ j. says.Join (h.0 j) (h.1 j) (h.2 j)
record_is s id m _ h = absurd h

told_is : (s : ℕ) (id : EpochId) (m : Members) (x : Told) → IsJoin s id m x → x ≡ Shown (says.Join s id m)
told_is s id m (Shown r) h = ap Shown (record_is s id m r h)
told_is s id m _ h = absurd h

line_is : (s : ℕ) (id : EpochId) (m : Members) (x : Line) → x.told ≡ Shown (says.Join s id m) → x ≡ joins_line x.number s id m
line_is s id m x e = λ j. record { number = x.number; told = e j }

-- where a join stands in a trace; since then the site didn't boot, or has a greater boot number
record Found (s : ℕ) (id : EpochId) (m : Members) (trace : List Line) : Type 0 where
  number : ℕ
  between : List Line
  older : List Line
  is : trace ≡ between ++ joins_line number s id m ∷ older
  boots : StaysUp s between ⊎ (boot_told s (past_of older) + 1 ≤ boot_told s (past_of trace))
  low : boot_told s (past_of older) ≤ boot_told s (past_of trace)
  least_boot : 1 ≤ boot_told s (past_of older)
  lists : ListsBoot s id m (boot_told s (past_of older))

record_ups : (s : ℕ) (r : Record) → IsUp s (Shown r) ⊎ (IsUp s (Shown r) → ⊥)
record_ups s (says.Up t b) = (elim (t == s) as (λ x. (t == s) ≡ x → (t ≡ s) ⊎ ((t ≡ s) → ⊥)) [ true ↦ λ e. inl (equal t s e) | false ↦ λ e. inr (λ q. absurd (false_true (sym e ∙ subst (λ (u : ℕ). (t == u) ≡ true) q (equal_self t)))) ]) refl
  where
    false_true : false ≡ true → ⊥
    false_true e = cc
record_ups s _ = inr (λ h. h)

told_ups : (s : ℕ) (x : Told) → IsUp s x ⊎ (IsUp s x → ⊥)
told_ups s (Shown r) = record_ups s r
told_ups s _ = inr (λ h. h)

record_up_rises : (s : ℕ) (past : List Told) (r : Record) → IsUp s (Shown r) → BootRecord past r → boot_told s past + 1 ≤ boot_record s r (boot_told s past)
record_up_rises s past (says.Up t b) e h = subst (λ (n : ℕ). boot_told s past + 1 ≤ n) (sym (own t s b (boot_told s past) e)) (subst (λ (u : ℕ). boot_told u past + 1 ≤ b) e h)
  where
    own : (t s b now : ℕ) → t ≡ s → cond (t == s) b now ≡ b
    own t s b now e = subst (λ (u : ℕ). cond (u == s) b now ≡ b) (sym e) (own_up s b now)
record_up_rises s past _ e h = absurd e

up_rises : (s : ℕ) (past : List Told) (x : Told) → IsUp s x → BootGoesOn past x → boot_told s past + 1 ≤ boot_told s (x ∷ past)
up_rises s past (Shown r) e h = record_up_rises s past r e h
up_rises s past _ e h = absurd e

one_more : (a b c : ℕ) → a ≤ b → b + 1 ≤ c → a + 1 ≤ c
one_more a b c h g = omega (arith, h, g)

further : (a b c : ℕ) → a + 1 ≤ b → b ≤ c → a + 1 ≤ c
further a b c h g = omega (arith, h, g)

find : (s : ℕ) (id : EpochId) (m : Members) (trace : List Line) → BootsGoOn (past_of trace) → WasJoined (past_of trace) s id m → Found s id m trace
find s id m [] b h = absurd h
find s id m (x ∷ rest) b (inl h) =
    let e : x.told ≡ Shown (says.Join s id m) = told_is s id m x.told h in
    record {
      number = x.number;
      between = [];
      older = rest;
      is = ap (λ (y : Line). y ∷ rest) (line_is s id m x e);
      boots = inl tt;
      low = told_rises s (past_of rest) x.told b.0;
      least_boot = positive s (past_of rest) b.1;
      lists = subst (BootGoesOn (past_of rest)) e b.0;
    }
find s id m (x ∷ rest) b (inr h) = one_later (find s id m rest b.1 h)
  where
    one_later : Found s id m rest → Found s id m (x ∷ rest)
    one_later r = record {
      number = r.number;
      between = x ∷ r.between;
      older = r.older;
      is = ap (λ (ys : List Line). x ∷ ys) r.is;
      boots = by_up (told_ups s x.told) r.boots;
      low = at_most_of (boot_told s (past_of r.older)) (boot_told s (past_of rest)) (boot_told s (x.told ∷ past_of rest)) r.low (told_rises s (past_of rest) x.told b.0);
      least_boot = r.least_boot;
      lists = r.lists;
    }
      where
        by_up : IsUp s x.told ⊎ (IsUp s x.told → ⊥) → StaysUp s r.between ⊎ (boot_told s (past_of r.older) + 1 ≤ boot_told s (past_of rest)) → StaysUp s (x ∷ r.between) ⊎ (boot_told s (past_of r.older) + 1 ≤ boot_told s (x.told ∷ past_of rest))
        by_up (inl up) k = inr (one_more (boot_told s (past_of r.older)) (boot_told s (past_of rest)) (boot_told s (x.told ∷ past_of rest)) r.low (up_rises s (past_of rest) x.told up b.0))
        by_up (inr down) (inl k) = inl (down, k)
        by_up (inr down) (inr k) = inr (further (boot_told s (past_of r.older)) (boot_told s (past_of rest)) (boot_told s (x.told ∷ past_of rest)) k (told_rises s (past_of rest) x.told b.0))

-- ---- two joins ----

joined_in : (s : ℕ) (id : EpochId) (m : Members) (k : ℕ) (a b : List Line) → Joined s id m (a ++ joins_line k s id m ∷ b)
joined_in s id m k [] b = inl (refl, refl, refl)
joined_in s id m k (x ∷ xs) b = inr (joined_in s id m k xs b)

below_self : (id : EpochId) → is_epoch_below id id ≡ true → ⊥
below_self id e = grind (arith, nat_tests)

lists_differ : (s : ℕ) (id : EpochId) (m n : Members) (a b : ℕ) → m ≡ n → 1 ≤ a → a + 1 ≤ b → ListsBoot s id n a → ListsBoot s id m b → ⊥
lists_differ s id m n a b e one le (inl h) (inl g) = let k : boot_in m.boot s ≡ a = subst (λ (y : Members). boot_in y.boot s ≡ a) (sym e) h in omega (arith, k, g, le)
lists_differ s id m n a b e one le (inl h) (inr g) = let k : boot_in m.boot s ≡ a = subst (λ (y : Members). boot_in y.boot s ≡ a) (sym e) h in let z : boot_in m.boot s ≡ 0 = g.0 in omega (arith, k, z, one)
lists_differ s id m n a b e one le (inr h) (inl g) = let k : boot_in m.boot s ≡ 0 = subst (λ (y : Members). boot_in y.boot s ≡ 0) (sym e) h.0 in omega (arith, k, g, le)
lists_differ s id m n a b e one le (inr h) (inr g) = let k : id.boot ≡ a = h.2 in let z : id.boot ≡ b = g.2 in omega (arith, k, z, le)

append_one : (a : List Line) (x : Line) (b : List Line) → a ++ x ∷ b ≡ (a ++ x ∷ []) ++ b
append_one [] x b = refl
append_one (y ∷ ys) x b = ap (λ (zs : List Line). y ∷ zs) (append_one ys x b)

first_here : (trace : List Line) → JoinsRise trace → OneList trace → (newer rest : List Line) (x : Line) → trace ≡ newer ++ x ∷ rest → BootsGoOn (x.told ∷ past_of rest) → (t : Told) → x.told ≡ t → FirstJoin (past_of rest) t
first_here trace rise one newer rest x is b (Shown r) e = by_record r e
  where
    twice : (s : ℕ) (id : EpochId) (m others : Members) → x.told ≡ Shown (says.Join s id m) → Found s id others rest → ⊥
    twice s id m others e f =
        let whole : trace ≡ newer ++ joins_line x.number s id m ∷ (f.between ++ joins_line f.number s id others ∷ f.older) = is ∙ (ap (λ (y : Line). newer ++ y ∷ rest) (line_is s id m x e) ∙ ap (λ (ys : List Line). newer ++ joins_line x.number s id m ∷ ys) f.is) in
        by_boots (subst (Joined s id m) (sym (is ∙ ap (λ (y : Line). newer ++ y ∷ rest) (line_is s id m x e))) (joined_in s id m x.number newer rest)) (subst (Joined s id others) (sym (whole ∙ append_one newer (joins_line x.number s id m) (f.between ++ joins_line f.number s id others ∷ f.older) ∙ append_more (newer ++ joins_line x.number s id m ∷ []) f.between (joins_line f.number s id others ∷ f.older))) (joined_in s id others f.number ((newer ++ joins_line x.number s id m ∷ []) ++ f.between) f.older)) f.boots whole
      where
        append_more : (a c d : List Line) → a ++ (c ++ d) ≡ (a ++ c) ++ d
        append_more [] c d = refl
        append_more (y ∷ ys) c d = ap (λ (zs : List Line). y ∷ zs) (append_more ys c d)

        by_boots : Joined s id m trace → Joined s id others trace → StaysUp s f.between ⊎ (boot_told s (past_of f.older) + 1 ≤ boot_told s (past_of rest)) → trace ≡ newer ++ joins_line x.number s id m ∷ (f.between ++ joins_line f.number s id others ∷ f.older) → ⊥
        by_boots j k (inl up) whole = below_self id (rise s f.number x.number id id m others newer f.between f.older whole up)
        by_boots j k (inr le) whole = lists_differ s id m others (boot_told s (past_of f.older)) (boot_told s (past_of rest)) (one s s id m others j k) f.least_boot le f.lists (subst (BootGoesOn (past_of rest)) e b.0)

    by_record : (r : Record) → x.told ≡ Shown r → FirstRecord (past_of rest) r
    by_record (says.Join s id m) e = λ others h. twice s id m others e (find s id others rest b.1 h)
    by_record _ e = tt
first_here trace rise one newer rest x is b _ e = tt

all_once : (trace : List Line) → JoinsRise trace → OneList trace → (newer rest : List Line) → trace ≡ newer ++ rest → BootsGoOn (past_of rest) → JoinsAreOnce (past_of rest)
all_once trace rise one newer [] is b = tt
all_once trace rise one newer (x ∷ rest) is b = (first_here trace rise one newer rest x is b x.told refl, all_once trace rise one (newer ++ x ∷ []) rest (is ∙ append_one newer x rest) b.1)

pub run_joins_once : (c : Config) (lines : List ScheduleLine) → JoinsAreOnce (past_of (run_in c lines).trace)
run_joins_once c lines = all_once (run_in c lines).trace (run_joins_rise c lines) (one_list c lines) [] (run_in c lines).trace refl (run_boots c lines)
