-- A call that begins on a descriptor: which it is, and what it names.
use Rattle.std.proofs.Common.{◌≡◌, ℕ, Bool, true, false, cond, Option, Some, None, refl, sym, ap, ◌∙◌}
use Rattle.locus_ids.specs.declared.ids.CallId.{CallId}
use Rattle.locus_ids.specs.declared.ids.EpochId.{EpochId}
use Rattle.locus_ids.specs.declared.ids.Serial.{Serial}
use Rattle.commit_graph.specs.Grants.{is_read}
use Rattle.trace_book.specs.Same.{same_epoch, same_serial}
use Rattle.trace_book.specs.declared.call.Call.{Call}
use Rattle.trace_book.specs.declared.call.Call.TheVariants as call
use Rattle.trace_book.specs.declared.descriptor.Descriptor.{Descriptor}
use Rattle.trace_book.specs.declared.descriptor.OneVersion.{OneVersion}
use Rattle.trace_book.specs.declared.descriptor.Beginning.{Beginning}
use Rattle.trace_book.specs.declared.descriptor.Beginning.TheVariants as begins
use Rattle.call_rules.specs.Descriptors.{beginning, begins_again, begins_change, begins_close, begins_open, begins_read, begins_walk, held_or, is_in, lowest_free, stale_or}
use Rattle.call_rules.specs.Words.{is_too_long}
use Rattle.promises.specs.Past.{is_on, is_close}
use Rattle.past_laws.proofs.Names.{false_true, both_parts, epoch_eq, serial_eq}

-- the descriptor on which a call begins
pub record BeginsOn (table : ℕ → Option Descriptor) (now : Option EpochId) (words : Call) (e : EpochId) (i : Serial) : Type 0 where
  pub fd : ℕ
  pub names : Descriptor
  pub found : table fd ≡ Some names
  pub inside : now ≡ Some e
  pub epoch_is : names.epoch ≡ e
  pub inst_is : names.inst ≡ i
  -- a close is of this number
  pub closes : is_close words ≡ true → words ≡ call.Close fd

is_it : (now : Option EpochId) (e : EpochId) → is_in now e ≡ true → now ≡ Some e
is_it None e h = false_true h
is_it (Some d) e h = ap Some (epoch_eq d e h)

-- the call begins on nothing but an instance, which a descriptor names
record NamesOne (now : Option EpochId) (d : Descriptor) (e : EpochId) (i : Serial) : Type 0 where
  inside : is_in now d.epoch ≡ true
  named : is_on (begins.Uses d.epoch d.inst) e i ≡ true

-- what begins otherwise than on it begins on nothing
abbrev Apart : Beginning → EpochId → Serial → Type 0
Apart b e i = is_on b e i ≡ false

held_one : (now : Option EpochId) (d : Descriptor) (b : Beginning) (e : EpochId) (i : Serial) → Apart b e i → is_on (held_or now d b) e i ≡ true → NamesOne now d e i
held_one now d b e i apart h = at (is_in now d.epoch) refl h
  where
    at : (x : Bool) → is_in now d.epoch ≡ x → is_on (cond x (begins.Uses d.epoch d.inst) b) e i ≡ true → NamesOne now d e i
    at true n k = record { inside = n; named = k }
    at false n k = false_true (sym apart ∙ k)

again_apart : (now : Option EpochId) (last : EpochId) (o : Option OneVersion) (e : EpochId) (i : Serial) → Apart (stale_or (begins_again now last) last o) e i
again_apart now last None e i = refl
again_apart None last (Some kept) e i = refl
again_apart (Some d) last (Some kept) e i = refl

frees_apart : (last : EpochId) (o : Option OneVersion) (e : EpochId) (i : Serial) → Apart (stale_or (λ version. begins.Frees) last o) e i
frees_apart last None e i = refl
frees_apart last (Some kept) e i = refl

change_one : (now : Option EpochId) (d : Descriptor) (e : EpochId) (i : Serial) → is_on (begins_change now (Some d)) e i ≡ true → NamesOne now d e i
change_one now d e i h = by d.steady refl h
  where
    at : d.steady ≡ None → (a r : Bool) → is_in now d.epoch ≡ a → is_read d.mode ≡ r → is_on (begins_change now (Some d)) e i ≡ true → NamesOne now d e i
    at s true true n q k = false_true (rw (s, n, q) at k)
    at s true false n q k = record { inside = n; named = rw (s, n, q) at k }
    at s false r n q k = false_true (rw (s, n) at k)

    by : (o : Option OneVersion) → d.steady ≡ o → is_on (begins_change now (Some d)) e i ≡ true → NamesOne now d e i
    by None s k = at s (is_in now d.epoch) (is_read d.mode) refl refl k
    by (Some kept) s k = false_true (rw s at k)

named_here : (table : ℕ → Option Descriptor) (now : Option EpochId) (words : Call) (fd : ℕ) (d : Descriptor) (e : EpochId) (i : Serial) → (is_close words ≡ true → words ≡ call.Close fd) → table fd ≡ Some d → NamesOne now d e i → BeginsOn table now words e i
named_here table now words fd d e i closes t it = (let parts : (same_epoch d.epoch e ≡ true) × (same_serial d.inst i ≡ true) = both_parts (same_epoch d.epoch e) (same_serial d.inst i) it.named in
    record { fd = fd; names = d; found = t; inside = is_it now d.epoch it.inside ∙ ap Some (epoch_eq d.epoch e parts.0); epoch_is = epoch_eq d.epoch e parts.0; inst_is = serial_eq d.inst i parts.1; closes = closes })

begins_reading : (table : ℕ → Option Descriptor) (now : Option EpochId) (words : Call) (fd : ℕ) (e : EpochId) (i : Serial) → (is_close words ≡ true → words ≡ call.Close fd) → is_on (begins_read now (table fd)) e i ≡ true → BeginsOn table now words e i
begins_reading table now words fd e i closes h = by (table fd) refl h
  where
    by : (o : Option Descriptor) → table fd ≡ o → is_on (begins_read now o) e i ≡ true → BeginsOn table now words e i
    by None t k = false_true k
    by (Some d) t k = named_here table now words fd d e i closes t (held_one now d (stale_or (begins_again now d.epoch) d.epoch d.steady) e i (again_apart now d.epoch d.steady e i) k)

begins_closing : (table : ℕ → Option Descriptor) (now : Option EpochId) (words : Call) (fd : ℕ) (e : EpochId) (i : Serial) → (is_close words ≡ true → words ≡ call.Close fd) → is_on (begins_close now (table fd)) e i ≡ true → BeginsOn table now words e i
begins_closing table now words fd e i closes h = by (table fd) refl h
  where
    by : (o : Option Descriptor) → table fd ≡ o → is_on (begins_close now o) e i ≡ true → BeginsOn table now words e i
    by None t k = false_true k
    by (Some d) t k = named_here table now words fd d e i closes t (held_one now d (stale_or (λ version. begins.Frees) d.epoch d.steady) e i (frees_apart d.epoch d.steady e i) k)

begins_changing : (table : ℕ → Option Descriptor) (now : Option EpochId) (words : Call) (fd : ℕ) (e : EpochId) (i : Serial) → (is_close words ≡ true → words ≡ call.Close fd) → is_on (begins_change now (table fd)) e i ≡ true → BeginsOn table now words e i
begins_changing table now words fd e i closes h = by (table fd) refl h
  where
    by : (o : Option Descriptor) → table fd ≡ o → is_on (begins_change now o) e i ≡ true → BeginsOn table now words e i
    by None t k = false_true k
    by (Some d) t k = named_here table now words fd d e i closes t (change_one now d e i k)

walks_not : (id : CallId) (now : Option EpochId) (e : EpochId) (i : Serial) → is_on (begins_walk now id) e i ≡ false
walks_not id None e i = refl
walks_not id (Some d) e i = refl

opens_not : (id : CallId) (now : Option EpochId) (free : Option ℕ) (e : EpochId) (i : Serial) → is_on (begins_open now id free) e i ≡ false
opens_not id now None e i = refl
opens_not id now (Some fd) e i = walks_not id now e i

pub begins_so : (table : ℕ → Option Descriptor) (now : Option EpochId) (id : CallId) (words : Call) (e : EpochId) (i : Serial) → is_on (beginning table now id words) e i ≡ true → BeginsOn table now words e i
begins_so table now id (call.Open path mode) e i h = false_true (sym (opens_not id now (lowest_free table) e i) ∙ h)
begins_so table now id (call.Read fd at len) e i h = begins_reading table now (call.Read fd at len) fd e i (λ k. false_true k) h
begins_so table now id (call.Write fd at bytes) e i h = by (is_too_long (call.Write fd at bytes)) refl
  where
    by : (b : Bool) → is_too_long (call.Write fd at bytes) ≡ b → BeginsOn table now (call.Write fd at bytes) e i
    by true t = false_true (rw t at h)
    by false t = begins_changing table now (call.Write fd at bytes) fd e i (λ k. false_true k) (rw t at h)
begins_so table now id (call.Cut fd len) e i h = begins_changing table now (call.Cut fd len) fd e i (λ k. false_true k) h
begins_so table now id (call.Commit fd) e i h = begins_changing table now (call.Commit fd) fd e i (λ k. false_true k) h
begins_so table now id (call.Abort fd) e i h = begins_changing table now (call.Abort fd) fd e i (λ k. false_true k) h
begins_so table now id (call.Close fd) e i h = begins_closing table now (call.Close fd) fd e i (λ k. refl) h
begins_so table now id (call.Create path sites) e i h = false_true (sym (walks_not id now e i) ∙ h)
begins_so table now id (call.MakeDir path) e i h = false_true (sym (walks_not id now e i) ∙ h)
begins_so table now id (call.Unlink path) e i h = false_true (sym (walks_not id now e i) ∙ h)
begins_so table now id (call.RemoveDir path) e i h = false_true (sym (walks_not id now e i) ∙ h)
begins_so table now id (call.Rename path name) e i h = false_true (sym (walks_not id now e i) ∙ h)
begins_so table now id (call.List path) e i h = false_true (sym (walks_not id now e i) ∙ h)
begins_so table now id (call.Stat path) e i h = false_true (sym (walks_not id now e i) ∙ h)
begins_so table now id (call.Mail path bytes) e i h = false_true (sym (walks_not id now e i) ∙ h)
begins_so table now id (call.Mails path) e i h = false_true (sym (walks_not id now e i) ∙ h)
begins_so table now id (call.Mend file) e i h = false_true (sym (walks_not id now e i) ∙ h)
