-- What a probe gives, and what a tree makes of the calls whose makes are underway.
use Rattle.std.proofs.Common.{◌≡◌, ℕ, ◌+◌, ◌==◌, Bool, true, false, not, cond, ◌&&◌, List, length, nat_lt, Option, Some, None, refl, sym, ap, ◌⊎◌, inl, inr}
use Rattle.std.specs.List.{find}
use Rattle.role_steps.proofs.of_plain_facts.Numbers.{equal}
use Rattle.role_steps.proofs.of_plain_facts.Tests.{and_first, and_second, true_false}
use Rattle.locus_ids.specs.declared.ids.CallId.{CallId}
use Rattle.locus_ids.specs.declared.ids.EpochId.{EpochId}
use Rattle.locus_ids.specs.declared.ids.FileId.{FileId}
use Rattle.locus_ids.specs.declared.ids.Mode.{Mode}
use Rattle.locus_ids.specs.declared.ids.Mode.TheVariants as mode
use Rattle.locus_ids.specs.declared.ids.Serial.{Serial}
use Rattle.locus_ids.specs.declared.ids.Stamp.{Stamp}
use Rattle.locus_ids.specs.declared.refusal.Refusal.{Refusal}
use Rattle.locus_ids.specs.declared.refusal.Refusal.TheVariants as refusal
use Rattle.locus_ids.specs.Sizes.{directory_bytes_max}
use Rattle.commit_graph.specs.declared.history.Version.{Version}
use Rattle.trace_book.specs.Names.{is_name}
use Rattle.trace_book.specs.Same.{same_call, same_epoch}
use Rattle.trace_book.specs.declared.operation.Op.{Op}
use Rattle.trace_book.specs.declared.operation.Op.TheVariants as op
use Rattle.trace_book.specs.declared.operation.Outcome.{Outcome}
use Rattle.trace_book.specs.declared.operation.Outcome.TheVariants as outcome
use Rattle.trace_book.specs.declared.record.Record.{Record}
use Rattle.trace_book.specs.declared.record.Record.TheVariants as says
use Rattle.dir_format.specs.Contents.{entries_of, is_dir}
use Rattle.dir_format.specs.Effects.{DirEffect, probe_beside, probe_effect, size_of}
use Rattle.dir_format.specs.Lookups.{has_name}
use Rattle.dir_format.specs.declared.entry.Entry.{Entry}
use Rattle.file_effects.specs.Effects.{Effect, in_directory, is_refusal, on_directory}
use Rattle.file_content.specs.Pages.{pages_needed}
use Rattle.file_effects.specs.Works.{result_in}
use Rattle.the_run.specs.Kept.{Among}
use Rattle.tree_model.specs.declared.instance.Instance.{Instance}
use Rattle.tree_model.specs.Given.{gives_act, instance_gives}
use Rattle.tree_model.specs.Same.{is_given, same_outcome}
use Rattle.tree_model.specs.State.{TreeState, instance_in, is_granted_here, is_make}
use Rattle.tree_model.specs.Tree.{acted, grant_of, granted, is_passed_probe, joined, left, next, released, with_make, without_made, without_make}
use Rattle.tree_model.specs.Working.{effect_on, free_pages, in_room, result_on}
use Rattle.tree_laws.proofs.Names.{same_call_eq, same_epoch_eq}
use Rattle.row_laws.proofs.CallRows.Keeping.{filter_keeps}

-- ---- what a probe gives ----

-- the name is free, or the probe is refused
abbrev IsProbed : Outcome → Type 0
IsProbed outcome.Done = Unit {0}
IsProbed (outcome.No why) = Unit {0}
IsProbed _ = ⊥

abbrev EffectProbed : Option Effect → Type 0
EffectProbed None = Unit {0}
EffectProbed (Some e) = IsProbed e.result

beside_probed : (name : List ℕ) (ds : List Entry) (o : Option Entry) → IsProbed (probe_beside name ds o).outcome
beside_probed name ds (Some d) = tt
beside_probed name ds None = over (nat_lt directory_bytes_max (size_of ds + (length name + 8)))
  where
    over : (b : Bool) → IsProbed (cond {A = DirEffect} b (record { outcome = outcome.No refusal.TooLong; entries = ds; counts = false; spent = false }) (record { outcome = outcome.Done; entries = ds; counts = false; spent = false })).outcome
    over true = tt
    over false = tt

effect_probed : (name content : List ℕ) → EffectProbed (cond (is_name name) (in_directory content (Some (probe_effect name (entries_of content)))) None)
effect_probed name content = over (is_name name) (is_dir (probe_effect name (entries_of content)).entries)
  where
    over : (a b : Bool) → EffectProbed (cond a (cond b (Some (on_directory content (probe_effect name (entries_of content)))) None) None)
    over true true = beside_probed name (entries_of content) (find (has_name name) (entries_of content))
    over true false = tt
    over false b = tt

in_probed : (free : ℕ) (changed : List ℕ) (e : Effect) → IsProbed e.result → IsProbed (result_in free changed e)
in_probed free changed e h = over (is_refusal e.result) (nat_lt free (pages_needed e.pages changed)) e.spent
  where
    over : (a b s : Bool) → IsProbed (cond a e.result (cond b (outcome.No (refusal.NoSpace (pages_needed e.pages changed) free)) (cond s (outcome.No refusal.Spent) e.result)))
    over true b s = h
    over false true s = tt
    over false false true = tt
    over false false false = h

same_probed : (r result : Outcome) → same_outcome r result ≡ true → IsProbed r → IsProbed result
same_probed outcome.Done outcome.Done e h = tt
same_probed (outcome.No r) (outcome.No why) e h = tt
same_probed outcome.Done result e h = absurd (true_false (sym e))
same_probed (outcome.No r) result e h = absurd (true_false (sym e))
same_probed r result e h = absurd h

given_probed : (free : ℕ) (changed : List ℕ) (o : Option Effect) (result : Outcome) → EffectProbed o → is_given (in_room free changed o) result ≡ true → IsProbed result
given_probed free changed None result h e = absurd (true_false (sym e))
given_probed free changed (Some x) result h e = same_probed (result_in free changed x) result e (in_probed free changed x h)

probe_gives : (h : List Version) (t : TreeState) (i : Serial) (n : ℕ) (name : List ℕ) (result : Outcome) → gives_act h t i n (op.Probe name) result ≡ true → IsProbed result
probe_gives h t i n name result e = over (instance_in t i) e
  where
    second : (a b : Bool) → (a && b) ≡ true → b ≡ true
    second true b e = e
    second false b e = absurd (true_false (sym e))

    over : (x : Option Instance) → instance_gives h t n (op.Probe name) result x ≡ true → IsProbed result
    over None e = absurd (true_false (sym e))
    over (Some x) e = given_probed (free_pages h t x.grant.ss) x.work.changed (effect_on h t (op.Probe name) x) result (effect_probed name x.work.content) (second (n == x.work.ops + 1) (is_given (result_on h t (op.Probe name) x) result) e)

-- a probe that isn't refused has passed
pub probe_passes : (h : List Version) (t : TreeState) (i : Serial) (n : ℕ) (name : List ℕ) (result : Outcome) → gives_act h t i n (op.Probe name) result ≡ true → is_refusal result ≡ false → is_passed_probe (op.Probe name) result ≡ true
probe_passes h t i n name result e plain = over result (probe_gives h t i n name result e) plain
  where
    over : (r : Outcome) → IsProbed r → is_refusal r ≡ false → is_passed_probe (op.Probe name) r ≡ true
    over outcome.Done p q = refl
    over (outcome.No why) p q = absurd (true_false q)
    over _ p q = absurd p

-- ---- makes that are underway ----

-- the record ends the make of the call: it is refused, or what it has made is released
abbrev pub EndsMake : TreeState → CallId → Record → Type 0
EndsMake t d (says.Refuse e call request i m f why) = (e ≡ t.epoch) × (f.group ≡ t.group) × (m ≡ mode.Make) × (call ≡ d)
EndsMake t d (says.Release e i f stamp) = (e ≡ t.epoch) × ((x : Instance) × (instance_in t i ≡ Some x) × (x.grant.mode ≡ mode.Make) × (x.grant.call ≡ d))
EndsMake t d _ = ⊥

is_make_eq : (m : Mode) → is_make m ≡ true → m ≡ mode.Make
is_make_eq mode.Make e = refl
is_make_eq mode.Read e = absurd (true_false (sym e))
is_make_eq mode.Write e = absurd (true_false (sym e))
is_make_eq mode.Resolve e = absurd (true_false (sym e))
is_make_eq mode.Mend e = absurd (true_false (sym e))

-- another's make is over
left_by : (d call : CallId) (calls : List CallId) → Among d calls → (call ≡ d) ⊎ Among d (without_make call calls)
left_by d call calls among = at (same_call d call) refl
  where
    at : (b : Bool) → same_call d call ≡ b → (call ≡ d) ⊎ Among d (without_make call calls)
    at true e = inl (sym (same_call_eq d call e))
    at false e = inr (filter_keeps (λ z. not (same_call z call)) calls d among (ap not e))

module _ (h : List Version) (t : TreeState) (d : CallId) (among : Among d t.makes) where
  stays_if : (b : Bool) (u : TreeState) → Among d u.makes → Among d (cond b u t).makes
  stays_if true u k = k
  stays_if false u k = among

  refused : (e : EpochId) (call : CallId) (request : ℕ) (i : Serial) (m : Mode) (f : FileId) (why : Refusal) (b : Bool) → same_epoch e t.epoch && ((f.group == t.group) && is_make m) ≡ b →
      EndsMake t d (says.Refuse e call request i m f why) ⊎ Among d (cond b (record t { makes = without_make call t.makes }) t).makes
  refused e call request i m f why false k = inr among
  refused e call request i m f why true k = over (left_by d call t.makes among)
    where
      here : (f.group == t.group) && is_make m ≡ true
      here = and_second (same_epoch e t.epoch) ((f.group == t.group) && is_make m) k

      over : (call ≡ d) ⊎ Among d (without_make call t.makes) → EndsMake t d (says.Refuse e call request i m f why) ⊎ Among d (without_make call t.makes)
      over (inr w) = inr w
      over (inl same) = inl (same_epoch_eq e t.epoch (and_first (same_epoch e t.epoch) ((f.group == t.group) && is_make m) k), equal f.group t.group (and_first (f.group == t.group) (is_make m) here), is_make_eq m (and_second (f.group == t.group) (is_make m) here), same)

  ended : (e : EpochId) (i : Serial) (f : FileId) (stamp : Option Stamp) (b : Bool) → same_epoch e t.epoch && (f.group == t.group) ≡ b → EndsMake t d (says.Release e i f stamp) ⊎ Among d (cond b (released i f stamp t) t).makes
  ended e i f stamp false k = inr among
  ended e i f stamp true k = over (instance_in t i) refl
    where
      Ends : Type 0
      Ends = EndsMake t d (says.Release e i f stamp)

      made : (x : Instance) → instance_in t i ≡ Some x → (a : Bool) → is_make x.grant.mode ≡ a → Ends ⊎ Among d (cond a (without_make x.grant.call t.makes) t.makes)
      made x found false m = inr among
      made x found true m = by (left_by d x.grant.call t.makes among)
        where
          by : (x.grant.call ≡ d) ⊎ Among d (without_make x.grant.call t.makes) → Ends ⊎ Among d (without_make x.grant.call t.makes)
          by (inr w) = inr w
          by (inl same) = inl (same_epoch_eq e t.epoch (and_first (same_epoch e t.epoch) (f.group == t.group) k), (x, found, is_make_eq x.grant.mode m, same))

      over : (o : Option Instance) → instance_in t i ≡ o → Ends ⊎ Among d (without_made o t.makes)
      over None found = inr among
      over (Some x) found = made x found (is_make x.grant.mode) refl

  probed : (o : Op) (result : Outcome) (found : Option Instance) (b : Bool) → Among d (cond b (with_make found t.makes) t.makes)
  probed o result found false = among
  probed o result None true = among
  probed o result (Some x) true = inr among

  -- a make is underway until it ends
  pub makes_stay : (r : Record) → EndsMake t d r ⊎ Among d (next h r t).makes
  makes_stay (says.Grant e call request i m f stamp ss) = inr (stays_if (same_epoch e t.epoch) (granted h (grant_of t call i m f ss) stamp t) among)
  makes_stay (says.Join s e m) = inr (over (same_epoch e t.epoch))
    where
      over : (b : Bool) → Among d (cond b (joined s m t) (left s t)).makes
      over true = among
      over false = among
  makes_stay (says.Start e g copies) = inr (stays_if (same_epoch e t.epoch && (g == t.group)) (record t { started = true }) among)
  makes_stay (says.Refuse e call request i m f why) = refused e call request i m f why (same_epoch e t.epoch && ((f.group == t.group) && is_make m)) refl
  makes_stay (says.Act e i n o result) = inr (stays_if (same_epoch e t.epoch && is_granted_here t i) (acted h i o result t) (probed o result (instance_in t i) (is_passed_probe o result)))
  makes_stay (says.Release e i f stamp) = ended e i f stamp (same_epoch e t.epoch && (f.group == t.group)) refl
  makes_stay r = inr among

-- and it is once its probe has passed
pub make_begins : (h : List Version) (t : TreeState) (d : CallId) (e : EpochId) (i : Serial) (n : ℕ) (name : List ℕ) (result : Outcome) (x : Instance) → (same_epoch e t.epoch && is_granted_here t i) ≡ true → is_passed_probe (op.Probe name) result ≡ true → instance_in t i ≡ Some x → x.grant.call ≡ d → Among d (next h (says.Act e i n (op.Probe name) result) t).makes
make_begins h t d e i n name result x here passed found same = rw here (rw passed (rw found (inl (sym same))))
