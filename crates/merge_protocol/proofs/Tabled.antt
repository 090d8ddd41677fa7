-- Numbers that are put into a table from the last one on.
use Rattle.std.proofs.Common.{◌≡◌, ◌<◌, ◌≤◌, ◌+◌, ◌-◌, ◌&&◌, cond, true, false, Bool, ℕ, zero, suc, List, [], ◌∷◌, ◌++◌, drop, filter, map, refl, sym, ◌∙◌, subst, arith, nat_lt, Option, None, append_assoc, append-nil}
use Rattle.std.specs.List.{list_all}
use Rattle.std.proofs.lemmas.Bool.Decides.{nat_tests}
use Rattle.role_steps.proofs.of_plain_facts.Numbers.{less}
use Rattle.role_steps.proofs.of_plain_facts.Tests.{both_true}
use Rattle.locus_ids.specs.Sizes.{sites_max}
use Rattle.locus_ids.specs.declared.sites.Links.{Links}
use Rattle.role_steps.specs.Tables.{with_row}
use Rattle.role_steps.specs.Views.{all_sites, all_groups}
use Rattle.role_steps.specs.declared.rounds.InEpoch.{InEpoch}
use Rattle.role_steps.specs.declared.rounds.Round.{Round}
use Rattle.wire_messages.specs.Outboxes.{Outgoing}
use Rattle.wire_messages.specs.declared.packet.Packet.{Packet}
use Rattle.role_steps.proofs.Numbers.{above_site, next_site}
use Rattle.epoch_rules.proofs.EachSite.{site_before}
use Rattle.partition_protocol.proofs.Rows.{put_front}
use Rattle.merge_protocol.specs.Parts.{decided}

-- a number below all comes first
first_of : (p : ℕ → Bool) (k : ℕ) (rest : List ℕ) → list_all (λ s. nat_lt k s) rest ≡ true → with_row (λ s. s) k (filter p rest) ≡ k ∷ filter p rest
first_of p k [] h = refl
first_of p k (x ∷ xs) h = elim (p x) as (λ b. with_row (λ s. s) k (filter p xs) ≡ k ∷ filter p xs → with_row (λ s. s) k (cond b (x ∷ filter p xs) (filter p xs)) ≡ k ∷ cond b (x ∷ filter p xs) (filter p xs)) [
  | true ↦ λ r. put_front (λ s. s) k x (filter p xs) (less k x (both_true (nat_lt k x) (list_all (λ s. nat_lt k s) xs) h).0)
  | false ↦ λ r. r
] (first_of p k xs (both_true (nat_lt k x) (list_all (λ s. nat_lt k s) xs) h).1)

put_next : (p : ℕ → Bool) (k : ℕ) (rest rows : List ℕ) → list_all (λ s. nat_lt k s) rest ≡ true → p k ≡ true → rows ≡ filter p rest → with_row (λ s. s) k rows ≡ filter p (k ∷ rest)
put_next p k rest rows h t e = rw (t, e) (first_of p k rest h)

skip_next : (p : ℕ → Bool) (k : ℕ) (rest rows : List ℕ) → p k ≡ false → rows ≡ filter p rest → rows ≡ filter p (k ∷ rest)
skip_next p k rest rows f e = rw (f, e) refl

-- one site more, from the last one on
pub site_put : (p : ℕ → Bool) (place site : ℕ) (rows : List ℕ) → 0 < place → place ≤ sites_max → site ≡ (place - 1) + 1 → p site ≡ true → rows ≡ filter p (drop place all_sites) → with_row (λ s. s) site rows ≡ filter p (drop (place - 1) all_sites)
site_put p place site rows a b e t h =
    let same : place ≡ site = omega arith in
    rw (site_before place a b) (subst (λ (s : ℕ). with_row (λ s. s) s rows ≡ filter p (place ∷ drop place all_sites)) same (put_next p place (drop place all_sites) rows (above_site place b) (subst (λ (s : ℕ). p s ≡ true) (sym same) t) h))

pub site_skipped : (p : ℕ → Bool) (place site : ℕ) (rows : List ℕ) → 0 < place → place ≤ sites_max → site ≡ (place - 1) + 1 → p site ≡ false → rows ≡ filter p (drop place all_sites) → rows ≡ filter p (drop (place - 1) all_sites)
site_skipped p place site rows a b e f h =
    let same : place ≡ site = omega arith in
    rw (site_before place a b) (skip_next p place (drop place all_sites) rows (subst (λ (s : ℕ). p s ≡ false) (sym same) f) h)

group_before : (g : ℕ) → 0 < g → g ≤ 4 → (drop (g - 1) all_groups ≡ (g - 1) ∷ drop g all_groups) × (list_all (λ s. nat_lt (g - 1) s) (drop g all_groups) ≡ true)
group_before zero a b = absurd (omega arith)
group_before (suc zero) a b = (refl, refl)
group_before (suc (suc zero)) a b = (refl, refl)
group_before (suc (suc (suc zero))) a b = (refl, refl)
group_before (suc (suc (suc (suc zero)))) a b = (refl, refl)
group_before (suc (suc (suc (suc (suc n))))) a b = absurd (omega arith)

pub group_skipped : (p : ℕ → Bool) (g : ℕ) (rows : List ℕ) → 0 < g → g ≤ 4 → p (g - 1) ≡ false → rows ≡ filter p (drop g all_groups) → rows ≡ filter p (drop (g - 1) all_groups)
group_skipped p g rows a b f h = rw (group_before g a b).0 (skip_next p (g - 1) (drop g all_groups) rows f h)

-- where an answer is missing, nothing is decided
pub none_decided : (me : ℕ) (links : Links) (boot : ℕ) (r : Round) (missing : List ℕ) → (missing ≡ [] → ⊥) → ◌≡◌ {A = Option InEpoch} None (decided me links boot r missing)
none_decided me links boot r [] h = absurd (h refl)
none_decided me links boot r (s ∷ ss) h = refl

-- ---- packets that are sent to one site after the other ----

-- one site more is sent a packet, or is passed over
pub sent_next : {P : Type 0} (g : ℕ → P) (p : ℕ → Bool) (place site : ℕ) (sent all : List P) → place < sites_max → site ≡ place + 1 → p site ≡ true → sent ++ map g (filter p (drop place all_sites)) ≡ all → (sent ++ g site ∷ []) ++ map g (filter p (drop (place + 1) all_sites)) ≡ all
sent_next {P = P} g p place site sent all l e t h = append_assoc sent (g site ∷ []) (map g (filter p (drop (place + 1) all_sites))) ∙ step (subst (λ (xs : List ℕ). sent ++ map g (filter p xs) ≡ all) (next_site place l) h) where
  step : sent ++ map g (filter p ((place + 1) ∷ drop (place + 1) all_sites)) ≡ all → sent ++ g site ∷ map g (filter p (drop (place + 1) all_sites)) ≡ all
  step q =
      let yes : p (place + 1) ≡ true = subst (λ n. p n ≡ true) e t in
      let more : sent ++ map g ((place + 1) ∷ filter p (drop (place + 1) all_sites)) ≡ all = subst (λ (b : Bool). sent ++ map g (cond b ((place + 1) ∷ filter p (drop (place + 1) all_sites)) (filter p (drop (place + 1) all_sites))) ≡ all) yes q in
      subst (λ n. sent ++ g n ∷ map g (filter p (drop (place + 1) all_sites)) ≡ all) (sym e) more

pub not_sent : {P : Type 0} (g : ℕ → P) (p : ℕ → Bool) (place site : ℕ) (sent all : List P) → place < sites_max → site ≡ place + 1 → p site ≡ false → sent ++ map g (filter p (drop place all_sites)) ≡ all → sent ++ map g (filter p (drop (place + 1) all_sites)) ≡ all
not_sent {P = P} g p place site sent all l e f h = step (subst (λ (xs : List ℕ). sent ++ map g (filter p xs) ≡ all) (next_site place l) h) where
  step : sent ++ map g (filter p ((place + 1) ∷ drop (place + 1) all_sites)) ≡ all → sent ++ map g (filter p (drop (place + 1) all_sites)) ≡ all
  step q =
      let no : p (place + 1) ≡ false = subst (λ n. p n ≡ false) e f in
      subst (λ (b : Bool). sent ++ map g (cond b ((place + 1) ∷ filter p (drop (place + 1) all_sites)) (filter p (drop (place + 1) all_sites))) ≡ all) no q

pub all_sent : {P : Type 0} (g : ℕ → P) (p : ℕ → Bool) (place : ℕ) (sent all : List P) → sites_max ≤ place → place ≤ sites_max → sent ++ map g (filter p (drop place all_sites)) ≡ all → sent ≡ all
all_sent {P = P} g p place sent all l m h = let same : place ≡ sites_max = omega arith in sym (append-nil sent) ∙ subst (λ n. sent ++ map g (filter p (drop n all_sites)) ≡ all) same h

-- what is sent so far, with what is left to send, is all of it
pub record Sent (first now : Outgoing) (left all : List Packet) : Type 0 where
  pub packets : now.packets ++ left ≡ first.packets ++ all
  pub records : now.records ≡ first.records

pub Sent-next : (g : ℕ → Packet) (p : ℕ → Bool) (place site : ℕ) (first now next : Outgoing) (all : List Packet) (one : Packet) → place < sites_max → site ≡ place + 1 → p site ≡ true → one ≡ g site → next ≡ record now { packets = now.packets ++ one ∷ [] } → Sent first now (map g (filter p (drop place all_sites))) all → Sent first next (map g (filter p (drop (place + 1) all_sites))) all
Sent-next g p place site first now next all one l e t o n h = subst (λ (x : Outgoing). Sent first x (map g (filter p (drop (place + 1) all_sites))) all) (sym n) (record {
  packets = subst (λ (x : Packet). (now.packets ++ x ∷ []) ++ map g (filter p (drop (place + 1) all_sites)) ≡ first.packets ++ all) (sym o) (sent_next g p place site now.packets (first.packets ++ all) l e t h.packets);
  records = h.records;
})

pub Sent-skip : (g : ℕ → Packet) (p : ℕ → Bool) (place site : ℕ) (first now next : Outgoing) (all : List Packet) → place < sites_max → site ≡ place + 1 → p site ≡ false → next ≡ now → Sent first now (map g (filter p (drop place all_sites))) all → Sent first next (map g (filter p (drop (place + 1) all_sites))) all
Sent-skip g p place site first now next all l e f n h = subst (λ (x : Outgoing). Sent first x (map g (filter p (drop (place + 1) all_sites))) all) (sym n) (record {
  packets = not_sent g p place site now.packets (first.packets ++ all) l e f h.packets;
  records = h.records;
})

pub Sent-all : (g : ℕ → Packet) (p : ℕ → Bool) (place : ℕ) (first now : Outgoing) (all : List Packet) → sites_max ≤ place → place ≤ sites_max → Sent first now (map g (filter p (drop place all_sites))) all → (now.packets ≡ first.packets ++ all) × (now.records ≡ first.records)
Sent-all g p place first now all l m h = (all_sent g p place now.packets (first.packets ++ all) l m h.packets, h.records)
