-- Boot numbers only rise, and each packet is of a boot that its sender has had.
use Rattle.std.proofs.Common.{◌≡◌, ◌≢◌, ◌≤◌, ℕ, zero, suc, ◌+◌, ◌-◌, ◌==◌, nat_lt, Bool, true, false, cond, List, [], ◌∷◌, ◌++◌, length, map, Option, Some, None, refl, sym, ◌∙◌, ap, subst, append_assoc, arith}
use Rattle.std.proofs.lemmas.Bool.Decides.{nat_tests}
use Rattle.locus_ids.specs.declared.config.Config.{Config}
use Rattle.locus_ids.specs.declared.ids.FileId.{FileId}
use Rattle.disk_calls.specs.of_schedule_lines.declared.line.ScheduleLine.{ScheduleLine}
use Rattle.role_steps.specs.of_wire_messages.declared.packet.Packet.{Packet}
use Rattle.role_steps.specs.Own.{Every, IsOwn, Sends}
use Rattle.role_steps.specs.Views.{SiteView, Told, DiskWrite, Outcome, Receives}
use Rattle.role_steps.proofs.Sending.{every_append}
use Rattle.the_run.specs.Disks.{Disk, Armed, Cut, BootWrite, ClosesLosing, WritesBody, OpensHalf, ClosesOther, ClosesGate, boot_writes, written, is_left_written, Booted, Whole, CutOff, boots, boots_armed, boots_freely, write_calls, cut_disk}
use Rattle.the_run.specs.Steps.{step}
use Rattle.the_run.specs.Worlds.{World, Place, Running, Stopped, Numbered, links_of, place_at, script_of, happened, numbered_from, newest_onto, disk_of, puts, arms, passed, stops_with, cut_told, cut_event, runs_on, spends, writes_of, acts_of, acts, first_world}
use Rattle.the_run.specs.Runs.{boots_as, run_from, run_in}
use Rattle.the_run.specs.Kept.{Kept}
use Rattle.the_run.specs.Laws.{boot_on, boot_number, BootsRise, IsOfABoot, EachOfABoot, IsFrom, SendsAs}
use Rattle.the_run.proofs.Events.{happened_keeps, puts_other, puts_same}
use Rattle.the_run.proofs.Growing.{run_splits}
use Rattle.the_run.proofs.Runs.{run_from_keeps, every_run}
use Rattle.the_run.proofs.StepSends.{step_sends}

-- ---- what a boot leaves ----

written_boot : (x : BootWrite) (d : Disk) → d.label.boot ≤ (written x d).label.boot
written_boot ClosesLosing d = omega arith
written_boot WritesBody d = omega arith
written_boot OpensHalf d = omega arith
written_boot ClosesOther d = omega arith
written_boot (ClosesGate file) d = omega arith

freely_boot : (xs : List BootWrite) (d : Disk) → d.label.boot ≤ (boots_freely xs d).label.boot
freely_boot [] d = omega arith
freely_boot (x ∷ xs) d = let a : d.label.boot ≤ (written x d).label.boot = written_boot x d in let b : (written x d).label.boot ≤ (boots_freely xs (written x d)).label.boot = freely_boot xs (written x d) in omega (arith, a, b)

opened_boot : (b : Bool) (files : List FileId) (d : Disk) → d.label.boot + 1 ≤ (boots_freely (cond b (ClosesLosing ∷ []) [] ++ (WritesBody ∷ OpensHalf ∷ ClosesOther ∷ map ClosesGate files)) d).label.boot
opened_boot true files d = freely_boot (map ClosesGate files) (written ClosesOther (written OpensHalf (written WritesBody (written ClosesLosing d))))
opened_boot false files d = freely_boot (map ClosesGate files) (written ClosesOther (written OpensHalf (written WritesBody d)))

-- a whole boot has reached the one number, a boot that was cut off the other
abbrev pub Reached : ℕ → ℕ → Booted → Type 0
Reached low high (Whole d a) = high ≤ d.label.boot
Reached low high (CutOff d how) = low ≤ d.label.boot

cut_reached : (low high : ℕ) (how : Cut) (b : Bool) (x : BootWrite) (d : Disk) → low ≤ d.label.boot → Reached low high (CutOff (cond b (written x d) d) how)
cut_reached low high how true x d h = let a : d.label.boot ≤ (written x d).label.boot = written_boot x d in omega (arith, a, h)
cut_reached low high how false x d h = h

armed_reached : (low high : ℕ) (a : Armed) (left : ℕ) (xs : List BootWrite) (d : Disk) → low ≤ d.label.boot → high ≤ (boots_freely xs d).label.boot → Reached low high (boots_armed a left xs d)
armed_reached low high a left [] d h g = g
armed_reached low high a zero (x ∷ xs) d h g = cut_reached low high a.how (is_left_written a.how true x) x d h
armed_reached low high a (suc zero) (x ∷ xs) d h g = cut_reached low high a.how (is_left_written a.how false x) x d h
armed_reached low high a (suc (suc left)) (x ∷ xs) d h g = armed_reached low high a left xs (written x d) (let b : d.label.boot ≤ (written x d).label.boot = written_boot x d in omega (arith, b, h)) g

pub boots_reached : (o : Option Armed) (d : Disk) → Reached d.label.boot (d.label.boot + 1) (boots o d)
boots_reached None d = opened_boot d.label.both_open d.both_open d
boots_reached (Some a) d = armed_reached d.label.boot (d.label.boot + 1) a a.left (boot_writes d) d (omega arith) (opened_boot d.label.both_open d.both_open d)

-- ---- places ----

pub at_each : (s t : ℕ) (P : Type 0) → (s ≡ t → P) → (s ≢ t → P) → P
at_each s t P same other = elim (s == t) as (λ b. (s == t) ≡ b → P) [ true ↦ λ e. same (grind (arith, nat_tests)) | false ↦ λ e. other (λ f. absurd (differs e f)) ] refl
  where
    differs : (s == t) ≡ false → s ≡ t → ⊥
    differs e f = grind (arith, nat_tests)

pub puts_rises : (s : ℕ) (old new : Place) (w : World) → place_at w s ≡ Some old → boot_on (Some old) ≤ boot_on (Some new) → BootsRise w (puts s new w)
puts_rises s old new w here le t =
    let a : boot_number w s ≡ boot_on (Some old) = ap boot_on here in
    let b : boot_number (puts s new w) s ≡ boot_on (Some new) = ap boot_on (puts_same s new w) in
    let mine : boot_number w s ≤ boot_number (puts s new w) s = omega (arith, a, b, le) in
    at_each s t (boot_number w t ≤ boot_number (puts s new w) t)
    (λ e. subst (λ (u : ℕ). boot_number w u ≤ boot_number (puts s new w) u) e mine)
    (λ ne. let e : boot_number (puts s new w) t ≡ boot_number w t = ap boot_on (puts_other s t new w ne) in omega (arith, e))

-- ---- the ways in which an outcome becomes part of the world ----

pub acts_cases : (P : World → Type 0) (n s : ℕ) (v : SiteView) (o : Outcome SiteView) (w : World) →
    P (runs_on n s o (λ now. now) w) → ((a : Armed) → P (runs_on n s o (arms a) w)) → ((d : DiskWrite) (a : Armed) → o.written ≡ Some d → P (cut_event n s v d a w)) → P (acts n s v o w)
acts_cases P n s v o w plain armed cut = by_written o.written refl
  where
    by_left : (d : DiskWrite) (a : Armed) (b : Bool) → o.written ≡ Some d → P (elim b [ true ↦ cut_event n s v d a w | false ↦ runs_on n s o (spends a (a.left - write_calls v.store d)) w ])
    by_left d a true e = cut d a e
    by_left d a false e = armed (record a { left = a.left - write_calls v.store d })

    by_script : (d : DiskWrite) (a : Option Armed) → o.written ≡ Some d → P (writes_of n s v o d a w)
    by_script d None e = plain
    by_script d (Some a) e = by_left d a (nat_lt a.left (write_calls v.store d)) e

    by_written : (d : Option DiskWrite) → o.written ≡ d → P (acts_of n s v o d w)
    by_written None e = plain
    by_written (Some d) e = by_script d (script_of w s) e

-- ---- lists of packets ----

pub every_newest : (P : Numbered → Type 0) (xs sent : List Numbered) → Every P xs → Every P sent → Every P (newest_onto xs sent)
every_newest P [] sent h g = g
every_newest P (x ∷ xs) sent h g = every_newest P xs (x ∷ sent) h.1 (h.0, g)

pub every_numbered : (P : Packet → Type 0) (k : ℕ) (ps : List Packet) → Every P ps → Every (λ (x : Numbered). P x.packet) (numbered_from k ps)
every_numbered P k [] h = tt
every_numbered P k (p ∷ ps) h = (h.0, every_numbered P (k + 1) ps h.1)

pub every_weaker : {A : Type 0} (P Q : A → Type 0) (xs : List A) → ((x : A) → P x → Q x) → Every P xs → Every Q xs
every_weaker P Q [] f h = tt
every_weaker P Q (x ∷ xs) f h = (f x h.0, every_weaker P Q xs f h.1)

-- ---- from an earlier world on ----

record Since (first w : World) : Type 0 where
  boots : BootsRise first w
  sent : EachOfABoot w

still_of_a_boot : (w u : World) → BootsRise w u → (x : Numbered) → IsOfABoot w x → IsOfABoot u x
still_of_a_boot w u rise x h = let a : boot_number w x.packet.from ≤ boot_number u x.packet.from = rise x.packet.from in omega (arith, a, h)

happened_since : (n : ℕ) (ps : List Packet) (told : List Told) (change : World → World) (first w : World) → BootsRise w (change w) → (change w).sent ≡ w.sent → Every (λ (p : Packet). p.from_boot ≤ boot_number (change w) p.from) ps → Since first w → Since first (happened n ps told change w)
happened_since n ps told change first w rise same new g =
    happened_keeps (Since first) n ps told change w g
    (λ l. record { boots = g.boots; sent = g.sent })
    (λ k b t. record {
      boots = λ s. (let a : boot_number first s ≤ boot_number w s = g.boots s in let c : boot_number w s ≤ boot_number (change w) s = rise s in omega (arith, a, c));
      sent = every_newest (IsOfABoot (change w)) (numbered_from (w.packets + 1) ps) (change w).sent
          (every_numbered (λ (p : Packet). p.from_boot ≤ boot_number (change w) p.from) (w.packets + 1) ps new)
          (subst (λ (xs : List Numbered). Every (IsOfABoot (change w)) xs) (sym same) (every_weaker (IsOfABoot w) (IsOfABoot (change w)) w.sent (still_of_a_boot w (change w) rise) g.sent));
    })

pub stays : (w : World) → BootsRise w w
stays w s = omega arith

runs_since : (n s : ℕ) (v : SiteView) (o : Outcome SiteView) (change : World → World) (first w : World) → BootsRise w (puts s (Running o.view) (change w)) → (change w).sent ≡ w.sent → Sends s v.boot o → Since first w → Since first (runs_on n s o change w)
runs_since n s v o change first w rise sent own g =
    let now : World = puts s (Running o.view) (change w) in
    let v_boot : o.view.boot ≡ v.boot = own.view in
    let here_now : boot_number now s ≡ o.view.boot = ap boot_on (puts_same s (Running o.view) (change w)) in
    happened_since n o.sent o.told (λ u. puts s (Running o.view) (change u)) first w rise sent
    (every_weaker (IsOwn s v.boot) (λ (p : Packet). p.from_boot ≤ boot_number now p.from) o.sent
    (λ p h. subst (λ (u : ℕ). p.from_boot ≤ boot_number now u) (sym h.site) (let f : p.from_boot ≡ v.boot = h.number in omega (arith, f, here_now, v_boot))) own.sent)
    g

acts_since : (n s : ℕ) (v : SiteView) (o : Outcome SiteView) (first w : World) → place_at w s ≡ Some (Running v) → Sends s v.boot o → Since first w → Since first (acts n s v o w)
acts_since n s v o first w here own g =
    acts_cases (Since first) n s v o w
    (runs_since n s v o (λ now. now) first w (puts_rises s (Running v) (Running o.view) w here same) refl own g)
    (λ a. runs_since n s v o (arms a) first w (puts_rises s (Running v) (Running o.view) (arms a w) here same) refl own g)
    (λ d a e. happened_since n [] (cut_told s v.store d a.how a.left) (stops_with s (cut_disk v.boot v.store d a.how a.left)) first w (puts_rises s (Running v) (Stopped (cut_disk v.boot v.store d a.how a.left)) w here (omega arith)) refl tt g)
  where
    same : v.boot ≤ o.view.boot
    same = let e : o.view.boot ≡ v.boot = own.view in omega (arith, e)

boots_since : (n s : ℕ) (d : Disk) (b : Booted) (first w : World) → place_at w s ≡ Some (Stopped d) → Reached d.label.boot (d.label.boot + 1) b → Since first w → Since first (boots_as n s b w)
boots_since n s d (Whole x None) first w here r g = happened_since n [] _ _ first w (puts_rises s (Stopped d) _ w here (omega (arith, r))) refl tt g
boots_since n s d (Whole x (Some a)) first w here r g = happened_since n [] _ _ first w (puts_rises s (Stopped d) _ w here (omega (arith, r))) refl tt g
boots_since n s d (CutOff x how) first w here r g = happened_since n [] _ _ first w (puts_rises s (Stopped d) (Stopped x) w here r) refl tt g

since_kept : (c : Config) (first : World) → Kept c (Since first)
since_kept c first = record {
  steps = λ n s e v w here own g. acts_since n s v (step c s (links_of w s) v e) first w here (step_sends c s v.boot (links_of w s) v e refl) g;
  receives = λ n x v w here sent g. acts_since n x.packet.to v (step c x.packet.to (links_of (passed x.number w) x.packet.to) v (Receives x.packet)) first (passed x.number w) here (step_sends c x.packet.to v.boot (links_of (passed x.number w) x.packet.to) v (Receives x.packet) refl) (record { boots = g.boots; sent = g.sent });
  passes = λ k w g. record { boots = g.boots; sent = g.sent };
  drops = λ k w g. record { boots = g.boots; sent = g.sent };
  recuts = λ xs w g. record { boots = g.boots; sent = g.sent };
  arming = λ a w g. record { boots = g.boots; sent = g.sent };
  voiding = λ n w g. happened_since n [] _ _ first w (stays w) refl tt g;
  budgets = λ n w g. happened_since n [] _ _ first w (stays w) refl tt g;
  pending = λ n w g. happened_since n [] _ _ first w (stays w) refl tt g;
  stopping = λ n s v w here g. happened_since n [] _ _ first w (puts_rises s (Running v) (Stopped (disk_of v)) w here (omega arith)) refl tt g;
  booting = λ n s d w here g. boots_since n s d (boots (script_of w s) d) first w here (boots_reached (script_of w s) d) g;
}

pub each_of_a_boot : (c : Config) (lines : List ScheduleLine) → EachOfABoot (run_in c lines)
each_of_a_boot c lines = (every_run c (Since (first_world c)) (since_kept c (first_world c)) (record { boots = stays (first_world c); sent = tt }) lines).sent

pub run_boots_rise : (c : Config) (lines more : List ScheduleLine) → BootsRise (run_in c lines) (run_in c (lines ++ more))
run_boots_rise c lines more =
    let first : World = run_in c lines in
    let g : Since first (run_from c (1 + length lines) more first) = run_from_keeps c (Since first) (since_kept c first) (1 + length lines) more first (record { boots = stays first; sent = each_of_a_boot c lines }) in
    subst (λ (w : World). BootsRise first w) (sym (run_splits c 1 lines more (first_world c))) g.boots

-- ---- what a step adds ----

newest_own : (P : Numbered → Type 0) (xs sent : List Numbered) → Every P xs → (more : List Numbered) × (newest_onto xs sent ≡ more ++ sent) × Every P more
newest_own P [] sent h = ([], refl, tt)
newest_own P (x ∷ xs) sent h =
    let r : (more : List Numbered) × (newest_onto xs (x ∷ sent) ≡ more ++ x ∷ sent) × Every P more = newest_own P xs (x ∷ sent) h.1 in
    (r.0 ++ x ∷ [], r.1 ∙ sym (append_assoc r.0 (x ∷ []) sent), every_append P r.0 (x ∷ []) r.2 (h.0, tt))

happened_as : (s boot n : ℕ) (ps : List Packet) (told : List Told) (change : World → World) (w : World) → (change w).sent ≡ w.sent → Every (IsOwn s boot) ps → SendsAs s boot w (happened n ps told change w)
happened_as s boot n ps told change w same own =
    happened_keeps (SendsAs s boot w) n ps told change w (record { packets = []; sent = refl; own = tt }) (λ l. record { packets = []; sent = refl; own = tt })
    (λ k b t. let r : (more : List Numbered) × (newest_onto (numbered_from (w.packets + 1) ps) (change w).sent ≡ more ++ (change w).sent) × Every (IsFrom s boot) more = newest_own (IsFrom s boot) (numbered_from (w.packets + 1) ps) (change w).sent (every_numbered (IsOwn s boot) (w.packets + 1) ps own) in
    record { packets = r.0; sent = r.1 ∙ ap (λ (xs : List Numbered). r.0 ++ xs) same; own = r.2 })

pub acts_send_as : (n s : ℕ) (v : SiteView) (o : Outcome SiteView) (w : World) → Sends s v.boot o → SendsAs s v.boot w (acts n s v o w)
acts_send_as n s v o w own =
    acts_cases (SendsAs s v.boot w) n s v o w
    (happened_as s v.boot n o.sent o.told (λ now. puts s (Running o.view) now) w refl own.sent)
    (λ a. happened_as s v.boot n o.sent o.told (λ now. puts s (Running o.view) (arms a now)) w refl own.sent)
    (λ d a e. happened_as s v.boot n [] (cut_told s v.store d a.how a.left) (stops_with s (cut_disk v.boot v.store d a.how a.left)) w refl tt)
