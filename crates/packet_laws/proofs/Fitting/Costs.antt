-- A step that begins a round has a packet or a record.
use Rattle.std.proofs.Common.{◌≡◌, ◌≤◌, ℕ, ◌+◌, ◌==◌, ◌⊎◌, Bool, true, false, cond, not, List, [], ◌∷◌, ◌++◌, length, map, filter, Option, Some, None, refl, sym, subst, inl, inr, arith}
use Rattle.std.proofs.lemmas.Bool.Decides.{nat_tests}
use Rattle.role_steps.proofs.of_plain_facts.Tests.{true_false}
use Rattle.locus_ids.specs.declared.ids.EpochId.{EpochId}
use Rattle.locus_ids.specs.declared.sites.Links.{Links}
use Rattle.locus_ids.specs.declared.config.Config.{Config}
use Rattle.trace_book.specs.Same.{same_epoch}
use Rattle.trace_book.specs.declared.record.Record.{Record}
use Rattle.trace_book.specs.declared.record.Record.TheVariants as says
use Rattle.wire_messages.specs.declared.packet.Packet.{Packet}
use Rattle.wire_messages.specs.declared.body.Body.{Body}
use Rattle.wire_messages.specs.declared.body.Body.TheVariants as body
use Rattle.role_steps.specs.Tables.{put_before, sorted_onto, total}
use Rattle.role_steps.specs.Views.{SiteView, Told, Shown, Outcome, Receives, Parts, Merges, quiet, boot_in, all_sites}
use Rattle.role_steps.specs.Epochs.{promises, reached, new_round, poll_packet, polled_sites, round_id, begins_round, boots_where, merge_boot, part_boot, starts_part_of, on_refuse_of, left_boot, passed_over, has_promised, chosen_members, chosen_set, unanswered, decides_if, passes_over_of, passes_over}
use Rattle.role_steps.specs.declared.rounds.InEpoch.{InEpoch}
use Rattle.role_steps.specs.declared.rounds.Round.{Round}
use Rattle.the_run.specs.Steps.{is_before, in_order, is_dropped, takes, tries_at, ends_event, whole, step}
use Rattle.the_run.specs.Worlds.{told_size}
use Rattle.run_laws.proofs.Epochs.Boots.{boot_or_none}
use Rattle.run_laws.proofs.Boots.{some_text}

-- the packets that an outcome has, and the text of what it tells
abbrev pub cost : ℕ → Outcome SiteView → ℕ
cost n o = length o.sent + total (told_size n) o.told

-- ---- lists ----

put_if : {A : Type 0} (b : Bool) (x y : A) (ys zs : List A) → length zs ≡ 1 + length ys → length (elim b as (λ (t : Bool). List A) [ true ↦ x ∷ y ∷ ys | false ↦ y ∷ zs ]) ≡ 1 + length (y ∷ ys)
put_if true x y ys zs e = omega arith
put_if false x y ys zs e = omega (arith, e)

put_length : {A : Type 0} (before : A → A → Bool) (x : A) (ys : List A) → length (put_before before x ys) ≡ 1 + length ys
put_length before x [] = omega arith
put_length before x (y ∷ ys) = put_if (before x y) x y ys (put_before before x ys) (put_length before x ys)

onto_length : {A : Type 0} (before : A → A → Bool) (done xs : List A) → length (sorted_onto before done xs) ≡ length done + length xs
onto_length before done [] = omega arith
onto_length before done (x ∷ xs) =
    let k : length (sorted_onto before (put_before before x done) xs) ≡ length (put_before before x done) + length xs = onto_length before (put_before before x done) xs in
    omega (arith, k, put_length before x done)

pub order_length : (ps : List Packet) → length (in_order ps) ≡ length ps
order_length ps = let k : length (in_order ps) ≡ length {A = Packet} [] + length ps = onto_length is_before [] ps in omega (arith, k)

pub append_length : {A : Type 0} (xs ys : List A) → length (xs ++ ys) ≡ length xs + length ys
append_length [] ys = omega arith
append_length (x ∷ xs) ys = omega (arith, append_length xs ys)

pub append_total : {A : Type 0} (f : A → ℕ) (xs ys : List A) → total f (xs ++ ys) ≡ total f xs + total f ys
append_total f [] ys = omega arith
append_total f (x ∷ xs) ys = omega (arith, append_total f xs ys)

map_length : {A B : Type 0} (f : A → B) (xs : List A) → length (map f xs) ≡ length xs
map_length f [] = refl
map_length f (x ∷ xs) = omega (arith, map_length f xs)

-- a weaker test lets one more through
pass_if : {A : Type 0} (a b : Bool) (x : A) (more fewer : List A) → (b ≡ true → a ≡ true) → (1 ≤ length fewer → 1 ≤ length more) → 1 ≤ length (cond b (x ∷ fewer) fewer) → 1 ≤ length (cond a (x ∷ more) more)
pass_if true b x more fewer weaker rest h = omega arith
pass_if false true x more fewer weaker rest h = absurd (true_false (sym (weaker refl)))
pass_if false false x more fewer weaker rest h = rest h

some_pass : {A : Type 0} (p q : A → Bool) → ((x : A) → q x ≡ true → p x ≡ true) → (xs : List A) → 1 ≤ length (filter q xs) → 1 ≤ length (filter p xs)
some_pass p q weaker [] h = h
some_pass p q weaker (x ∷ xs) h = pass_if (p x) (q x) x (filter p xs) (filter q xs) (weaker x) (some_pass p q weaker xs) h

most_if : {A : Type 0} (b : Bool) (x : A) (xs ys : List A) → length ys ≤ length xs → length (cond b (x ∷ ys) ys) ≤ length (x ∷ xs)
most_if true x xs ys h = omega (arith, h)
most_if false x xs ys h = omega (arith, h)

filter_most : {A : Type 0} (q : A → Bool) (xs : List A) → length (filter q xs) ≤ length xs
filter_most q [] = omega arith
filter_most q (x ∷ xs) = most_if (q x) x xs (filter q xs) (filter_most q xs)

some_length : (x : ℕ) (xs : List ℕ) → 1 ≤ length (x ∷ xs)
some_length x xs = omega arith

none_length : (xs : List ℕ) → (xs ≡ [] → ⊥) → 1 ≤ length xs
none_length [] h = absurd (h refl)
none_length (x ∷ xs) h = omega arith

-- ---- rounds ----

-- who is still polled was polled
left_was : (links polled : Links) (s : ℕ) → not (boot_in (boots_where (left_boot links polled)).boot s == 0) ≡ true → not (boot_in polled.boot s == 0) ≡ true
left_was links polled s h = by_case (boot_or_none (left_boot links polled) s)
  where
    not_none : (n : ℕ) → n ≡ 0 → not (n == 0) ≡ true → ⊥
    not_none n e k = grind (arith, nat_tests)

    by_same : (b : Bool) → not (cond b (boot_in polled.boot s) 0 == 0) ≡ true → not (boot_in polled.boot s == 0) ≡ true
    by_same true k = k
    by_same false k = absurd (not_none 0 refl k)

    by_case : (boot_in (boots_where (left_boot links polled)).boot s ≡ left_boot links polled s) ⊎ (boot_in (boots_where (left_boot links polled)).boot s ≡ 0) → not (boot_in polled.boot s == 0) ≡ true
    by_case (inl e) = by_same (boot_in links.boot s == boot_in polled.boot s) (subst (λ (n : ℕ). not (n == 0) ≡ true) e h)
    by_case (inr e) = absurd (not_none (boot_in (boots_where (left_boot links polled)).boot s) e h)

-- where an answer is missing, some site was polled
missing_polled : (links : Links) (r : Round) → 1 ≤ length (unanswered (passed_over links r)) → 1 ≤ length (polled_sites r.polled)
missing_polled links r h =
    let q : Round = passed_over links r in
    let most : length (unanswered q) ≤ length (polled_sites q.polled) = filter_most (λ (s : ℕ). not (has_promised q s)) (polled_sites q.polled) in
    some_pass (λ (s : ℕ). not (boot_in r.polled.boot s == 0)) (λ (s : ℕ). not (boot_in q.polled.boot s == 0)) (left_was links r.polled) all_sites (omega (arith, h, most))

-- where none is, the round is decided, and its site's join is told
shown_cost : (n : ℕ) (r : Record) (rest : List Told) → 1 ≤ total (told_size n) (Shown r ∷ rest)
shown_cost n r rest = omega (arith, some_text n r)

decides_costs : (c : Config) (n me : ℕ) (links : Links) (q : Round) (xs : List ℕ) (v : SiteView) → (1 ≤ length xs) ⊎ (1 ≤ total (told_size n) (decides_if c me links q xs v).told)
decides_costs c n me links q [] v = inr (shown_cost n (says.Join me q.id (chosen_members me v.boot q (chosen_set me links q))) [])
decides_costs c n me links q (x ∷ xs) v = inl (some_length x xs)

passes_cost : (c : Config) (n me : ℕ) (links : Links) (r : Round) (o : Option Round) (v : SiteView) → o ≡ Some r → (1 ≤ length (polled_sites r.polled)) ⊎ (1 ≤ total (told_size n) (passes_over_of c me links o v).told)
passes_cost c n me links r o v e = subst (λ (x : Option Round). (1 ≤ length (polled_sites r.polled)) ⊎ (1 ≤ total (told_size n) (passes_over_of c me links x v).told)) (sym e) (by_case (decides_costs c n me links (passed_over links r) (unanswered (passed_over links r)) v))
  where
    by_case : (1 ≤ length (unanswered (passed_over links r))) ⊎ (1 ≤ total (told_size n) (passes_over_of c me links (Some r) v).told) → (1 ≤ length (polled_sites r.polled)) ⊎ (1 ≤ total (told_size n) (passes_over_of c me links (Some r) v).told)
    by_case (inl h) = inl (missing_polled links r h)
    by_case (inr h) = inr h

ends_cost : (c : Config) (n me : ℕ) (links : Links) (r : Round) (v : SiteView) → v.round ≡ Some r → (1 ≤ length (polled_sites r.polled)) ⊎ (1 ≤ total (told_size n) (ends_event c me links v).told)
ends_cost c n me links r v e = by_case (passes_cost c n me links r v.round v e)
  where
    o : Outcome SiteView
    o = passes_over c me links v

    by_case : (1 ≤ length (polled_sites r.polled)) ⊎ (1 ≤ total (told_size n) o.told) → (1 ≤ length (polled_sites r.polled)) ⊎ (1 ≤ total (told_size n) (ends_event c me links v).told)
    by_case (inl h) = inl h
    by_case (inr h) = inr (let k : total (told_size n) (ends_event c me links v).told ≡ total (told_size n) o.told + _ = append_total (told_size n) o.told _ in omega (arith, k, h))

-- ---- the event ----

begins_sent : (me : ℕ) (links : Links) (number : ℕ) (polled : Links) (v : SiteView) → length (polled_sites polled) ≤ length (begins_round me links number polled v).sent
begins_sent me links number polled v =
    let o : Outcome SiteView = promises me (round_id me number v) (reached links) v in
    let k : length (begins_round me links number polled v).sent ≡ length o.sent + length (map (poll_packet me o.view.boot (round_id me number v) polled) (polled_sites polled)) = append_length o.sent (map (poll_packet me o.view.boot (round_id me number v) polled) (polled_sites polled)) in
    omega (arith, k, map_length (poll_packet me o.view.boot (round_id me number v) polled) (polled_sites polled))

-- packets of an event are packets of the whole, and so is what its end tells
whole_sent : (c : Config) (n me : ℕ) (links : Links) (o : Outcome SiteView) (tries : SiteView → Outcome SiteView) → length o.sent + total (told_size n) (ends_event c me links (tries o.view).view).told ≤ cost n (whole c me links o tries)
whole_sent c n me links o tries =
    let a : Outcome SiteView = tries o.view in
    let last : Outcome SiteView = ends_event c me links a.view in
    let s : length (a.sent ++ in_order (o.sent ++ last.sent)) ≡ length a.sent + length (in_order (o.sent ++ last.sent)) = append_length a.sent (in_order (o.sent ++ last.sent)) in
    let r : length (in_order (o.sent ++ last.sent)) ≡ length (o.sent ++ last.sent) = order_length (o.sent ++ last.sent) in
    let b : length (o.sent ++ last.sent) ≡ length o.sent + length last.sent = append_length o.sent last.sent in
    let t : total (told_size n) (a.told ++ (o.told ++ last.told)) ≡ total (told_size n) a.told + total (told_size n) (o.told ++ last.told) = append_total (told_size n) a.told (o.told ++ last.told) in
    let u : total (told_size n) (o.told ++ last.told) ≡ total (told_size n) o.told + total (told_size n) last.told = append_total (told_size n) o.told last.told in
    omega (arith, s, r, b, t, u)

begins_cost : (c : Config) (n me : ℕ) (links : Links) (number : ℕ) (polled : Links) (v : SiteView) → 1 ≤ cost n (whole c me links (begins_round me links number polled v) quiet)
begins_cost c n me links number polled v = by_case (ends_cost c n me links (new_round (round_id me number v) polled) o.view refl)
  where
    o : Outcome SiteView
    o = begins_round me links number polled v

    by_case : (1 ≤ length (polled_sites polled)) ⊎ (1 ≤ total (told_size n) (ends_event c me links o.view).told) → 1 ≤ cost n (whole c me links o quiet)
    by_case (inl h) = omega (arith, h, begins_sent me links number polled v, whole_sent c n me links o quiet)
    by_case (inr h) = omega (arith, h, whole_sent c n me links o quiet)

pub merge_cost : (c : Config) (n me : ℕ) (links : Links) (v : SiteView) → 1 ≤ cost n (step c me links v Merges)
merge_cost c n me links v = begins_cost c n me links (v.promised.number + 1) (boots_where (merge_boot me links)) v

part_of_cost : (c : Config) (n me : ℕ) (links : Links) (o : Option InEpoch) (e : InEpoch) (v : SiteView) → o ≡ Some e → 1 ≤ cost n (whole c me links (starts_part_of me links o v) quiet)
part_of_cost c n me links None e v h = absurd (none_is e h)
  where
    none_is : (e : InEpoch) → ◌≡◌ {A = Option InEpoch} None (Some e) → ⊥
    none_is e h = cc
part_of_cost c n me links (Some x) e v h = begins_cost c n me links (v.promised.number + 1) (boots_where (part_boot me links x.members)) v

pub part_cost : (c : Config) (n me : ℕ) (links : Links) (v : SiteView) (e : InEpoch) → v.epoch ≡ Some e → 1 ≤ cost n (step c me links v Parts)
part_cost c n me links v e h = part_of_cost c n me links v.epoch e v h

-- a refusal of the round that waits: some site was polled
refused_sent : (me : ℕ) (links : Links) (id theirs : EpochId) (o : Option Round) (r : Round) (v : SiteView) → o ≡ Some r → same_epoch r.id id ≡ true → (unanswered r ≡ [] → ⊥) → 1 ≤ length (on_refuse_of me links id theirs o v).sent
refused_sent me links id theirs o r v e same missing =
    subst (λ (x : Option Round). 1 ≤ length (on_refuse_of me links id theirs x v).sent) (sym e)
    (subst (λ (b : Bool). 1 ≤ length (elim b as (λ (t : Bool). Outcome SiteView) [ true ↦ begins_round me links (theirs.number + 1) r.polled v | false ↦ quiet v ]).sent) (sym same)
    (let most : length (unanswered r) ≤ length (polled_sites r.polled) = filter_most (λ (s : ℕ). not (has_promised r s)) (polled_sites r.polled) in omega (arith, none_length (unanswered r) missing, most, begins_sent me links (theirs.number + 1) r.polled v)))

pub refuse_cost : (c : Config) (n me : ℕ) (links : Links) (v : SiteView) (p : Packet) (theirs : EpochId) (r : Round) → p.body ≡ body.Refuse theirs → is_dropped p v ≡ false → v.round ≡ Some r → same_epoch r.id p.epoch ≡ true → (unanswered r ≡ [] → ⊥) → 1 ≤ cost n (step c me links v (Receives p))
refuse_cost c n me links v p theirs r is kept here same missing =
    subst (λ (b : Bool). 1 ≤ cost n (elim b as (λ (t : Bool). Outcome SiteView) [ true ↦ quiet v | false ↦ whole c me links (takes c me links p p.body v) (tries_at c me p.body) ])) (sym kept)
    (subst (λ (x : Body). 1 ≤ cost n (whole c me links (takes c me links p x v) (tries_at c me x))) (sym is)
    (let k : 1 ≤ length (on_refuse_of me links p.epoch theirs v.round v).sent = refused_sent me links p.epoch theirs v.round r v here same missing in
    omega (arith, k, whole_sent c n me links (takes c me links p (body.Refuse theirs) v) (tries_at c me (body.Refuse theirs)))))
