-- The file of the version that a steady descriptor keeps was granted to an open; and so was what a read opens again.
use Rattle.std.proofs.Common.{◌≡◌, ℕ, ◌==◌, Bool, true, false, cond, ◌&&◌, List, [], ◌∷◌, Option, option_map, Some, None, refl, sym, ◌∙◌, ap, subst, ◌⊎◌, inl, inr}
use Rattle.role_steps.proofs.of_plain_facts.Options.{none_some, some_same}
use Rattle.locus_ids.specs.declared.config.Config.{Config}
use Rattle.locus_ids.specs.declared.ids.CallId.{CallId}
use Rattle.locus_ids.specs.declared.ids.EpochId.{EpochId}
use Rattle.locus_ids.specs.declared.ids.FileId.{FileId}
use Rattle.locus_ids.specs.declared.ids.Mode.{Mode}
use Rattle.locus_ids.specs.declared.ids.Serial.{Serial}
use Rattle.locus_ids.specs.declared.ids.Stamp.{Stamp}
use Rattle.trace_book.specs.Same.{same_call}
use Rattle.trace_book.specs.declared.call.Call.{Call}
use Rattle.trace_book.specs.declared.descriptor.Beginning.TheVariants as begins
use Rattle.trace_book.specs.declared.descriptor.Descriptor.{Descriptor}
use Rattle.trace_book.specs.declared.descriptor.OneVersion.{OneVersion}
use Rattle.trace_book.specs.declared.record.Record.{Record}
use Rattle.trace_book.specs.declared.record.Record.TheVariants as says
use Rattle.trace_book.specs.declared.reply.Reply.{Reply}
use Rattle.trace_book.specs.declared.reply.Reply.TheVariants as reply
use Rattle.role_steps.specs.Views.{Told, Shown}
use Rattle.the_run.specs.Worlds.{Line}
use Rattle.tree_model.specs.declared.accepted.Waiting.{Waiting}
use Rattle.tree_model.specs.Calls.{call_named, opening_of, version_at, version_of}
use Rattle.tree_model.specs.Epochs.{epoch_of}
use Rattle.tree_model.specs.Folds.{Trace}
use Rattle.lawful_trace.specs.Tables.{begins_now, begun, descriptor, held_again, opened_by, reads_by}
use Rattle.lawful_trace.specs.TreeRows.{IsCallIn}
use Rattle.tree_laws.specs.Following.{AnswersInTime, IsFollowed, MayTell}
use Rattle.tree_laws.specs.Past.{WasGranted}
use Rattle.tree_laws.specs.Printed.{entries, onto_entries}
use Rattle.tree_laws.proofs.Names.{same_call_eq}
use Rattle.tree_laws.proofs.Naming.{steady_left}
use Rattle.tree_laws.proofs.Reopening.{FromSteady, reopens_from}
use Rattle.tree_laws.proofs.Scripts.{named_stays}
use Rattle.tree_laws.proofs.Orders.ProcessOneDescriptor.{left_record}
use Rattle.store_laws.proofs.Begun.{granted_in}
use Rattle.store_laws.proofs.ScriptNaming.{Opens, named_opens}

abbrev With : ℕ → Told → List Line → List Line
With n x older = record { number = n; told = x } ∷ older

-- ---- a version that was granted to a call ----

record GrantedVersion (t : List Line) (d : CallId) (f : FileId) : Type 0 where
  epoch : EpochId
  request : ℕ
  inst : Serial
  mode : Mode
  stamp : Option Stamp
  place : ℕ
  was_granted : WasGranted t epoch d request inst mode f stamp place
  opening : (x : Descriptor) × (opening_of (entries t) d ≡ Some x)

version_granted : (t : List Line) (d : CallId) (v : OneVersion) → version_of (entries t) d ≡ Some v → GrantedVersion t d v.file
version_granted [] d v e = absurd (none_some v e)
version_granted (y ∷ older) d v e = over y.told e (version_granted older d v)
  where
    now : Told → Type 0
    now z = GrantedVersion (With y.number z older) d v.file

    grants : (at : EpochId) (it : CallId) (request : ℕ) (i : Serial) (m : Mode) (f : FileId) (stamp : Option Stamp) (ss : ℕ) (b : Bool) → same_call it d ≡ b → cond b (version_at f stamp) (version_of (entries older) d) ≡ Some v → (version_of (entries older) d ≡ Some v → GrantedVersion older d v.file) → now (Shown (says.Grant at it request i m f stamp ss))
    grants at it request i m f stamp ss true q k later = told stamp refl k
      where
        told : (o : Option Stamp) → stamp ≡ o → version_at f o ≡ Some v → now (Shown (says.Grant at it request i m f stamp ss))
        told None is s = absurd (none_some v s)
        told (Some own) is s = record {
          epoch = at;
          request = request;
          inst = i;
          mode = m;
          stamp = stamp;
          place = ss;
          was_granted = inl (record { epoch_is = refl; call_is = same_call_eq it d q; request_is = refl; serial_is = refl; mode_is = refl; file_is = ap (λ (w : OneVersion). w.file) (some_same (record { file = f; stamp = own }) v s); stamp_is = refl; place_is = refl });
          opening = (record { mode = m; epoch = at; inst = i; steady = None }, ap (λ (b : Bool). cond b (Some (record { mode = m; epoch = at; inst = i; steady = None })) (opening_of (entries older) d)) q);
        }
    grants at it request i m f stamp ss false q k later = (let g : GrantedVersion older d v.file = later k in
        record {
          epoch = g.epoch;
          request = g.request;
          inst = g.inst;
          mode = g.mode;
          stamp = g.stamp;
          place = g.place;
          was_granted = inr g.was_granted;
          opening = (g.opening.0, ap (λ (b : Bool). cond b (Some (record { mode = m; epoch = at; inst = i; steady = None })) (opening_of (entries older) d)) q ∙ g.opening.1);
        })

    over : (z : Told) → version_of (onto_entries y.number z (entries older)) d ≡ Some v → (version_of (entries older) d ≡ Some v → GrantedVersion older d v.file) → now z
    over (Shown (says.Grant at it request i m f stamp ss)) k later = grants at it request i m f stamp ss (same_call it d) refl k later
    over (Shown r) k later = (let g : GrantedVersion older d v.file = later k in record { epoch = g.epoch; request = g.request; inst = g.inst; mode = g.mode; stamp = g.stamp; place = g.place; was_granted = inr g.was_granted; opening = g.opening })
    over z k later = (let g : GrantedVersion older d v.file = later k in record { epoch = g.epoch; request = g.request; inst = g.inst; mode = g.mode; stamp = g.stamp; place = g.place; was_granted = inr g.was_granted; opening = g.opening })

-- ---- a file that was granted to an open ----

pub record OpenedFile (t : List Line) (f : FileId) : Type 0 where
  pub opener : CallId
  pub epoch : EpochId
  pub request : ℕ
  pub inst : Serial
  pub mode : Mode
  pub stamp : Option Stamp
  pub place : ℕ
  pub was_granted : WasGranted t epoch opener request inst mode f stamp place
  pub caller : Waiting
  pub named : call_named (entries t) opener ≡ Some caller
  pub opens : Opens caller.words

opened_stays : (c : Config) (n : ℕ) (x : Told) (older : List Line) (f : FileId) → IsFollowed c older → MayTell c older x → OpenedFile older f → OpenedFile (With n x older) f
opened_stays c n x older f h may k = record {
  opener = k.opener;
  epoch = k.epoch;
  request = k.request;
  inst = k.inst;
  mode = k.mode;
  stamp = k.stamp;
  place = k.place;
  was_granted = inr k.was_granted;
  caller = k.caller;
  named = named_stays c n x older k.opener h may (k.caller, k.named) ∙ k.named;
  opens = k.opens;
}

opened_file : (c : Config) (t : List Line) (d : CallId) (n : ℕ) (v : OneVersion) → IsFollowed c t → AnswersInTime c t d (reply.Opened n) → version_of (entries t) d ≡ Some v → OpenedFile t v.file
opened_file c t d n v h replies version = record {
  opener = d;
  epoch = g.epoch;
  request = g.request;
  inst = g.inst;
  mode = g.mode;
  stamp = g.stamp;
  place = g.place;
  was_granted = g.was_granted;
  caller = inside.accepted;
  named = inside.named;
  opens = named_opens c t d g.opening.0 n inside.accepted h replies g.opening.1 inside.named;
}
  where
    g : GrantedVersion t d v.file
    g = version_granted t d v version

    inside : IsCallIn (entries t) g.epoch d
    inside = granted_in c t h g.epoch d g.request g.inst g.mode v.file g.stamp g.place g.was_granted

-- ---- what descriptors keep, and what is opened again ----

-- a number that an open gives keeps its version; one that was given before keeps what it kept
kept_left : (r : Reply) (before : Trace) (d : CallId) (fd : ℕ) (old : Option Descriptor) (x : Descriptor) (v : OneVersion) (P : Type 0) → ((n : ℕ) → r ≡ reply.Opened n → version_of before d ≡ Some v → P) → ((z : Descriptor) → old ≡ Some z → z.steady ≡ Some v → P) → opened_by r before d fd old ≡ Some x → x.steady ≡ Some v → P
kept_left (reply.Opened n) before d fd old x v P new was h keeps = over (steady_left (reply.Opened n) before d fd old x v h keeps)
  where
    over : (version_of before d ≡ Some v) ⊎ ((z : Descriptor) × (old ≡ Some z) × (z.steady ≡ Some v)) → P
    over (inl version) = new n refl version
    over (inr z) = was z.0 z.1 z.2
kept_left (reply.Data bytes) before d fd old x v P new was h keeps = over (reads_by (call_named before d) fd) h
  where
    again : (y : Descriptor) (o : Option Descriptor) → old ≡ o → option_map (λ (z : Descriptor). record y { steady = z.steady }) o ≡ Some x → P
    again y None e k = absurd (none_some x k)
    again y (Some z) e k = was z e (ap (λ (q : Descriptor). q.steady) (some_same (record y { steady = z.steady }) x k) ∙ keeps)

    found : (o : Option Descriptor) → held_again o old ≡ Some x → P
    found None k = was x k keeps
    found (Some y) k = again y old refl k

    over : (b : Bool) → cond b (held_again (opening_of before d) old) old ≡ Some x → P
    over true k = found (opening_of before d) k
    over false k = was x k keeps
kept_left _ before d fd old x v P new was h keeps = was x h keeps

record AllOpened (t : List Line) : Type 0 where
  kept : (s process fd : ℕ) (x : Descriptor) (v : OneVersion) → descriptor (entries t) s process fd ≡ Some x → x.steady ≡ Some v → OpenedFile t v.file
  reopens : (d : CallId) (v : OneVersion) (last : EpochId) → begun (entries t) d ≡ Some (begins.Reopens v last) → OpenedFile t v.file

kept_record : (c : Config) (older : List Line) (n : ℕ) (r : Record) (s process fd : ℕ) (x : Descriptor) (v : OneVersion) → IsFollowed c older → MayTell c older (Shown r) → AllOpened older → descriptor (record { line = n; what = r } ∷ entries older) s process fd ≡ Some x → x.steady ≡ Some v → OpenedFile older v.file
kept_record c older n (says.Answer site user it y) s process fd x v h may k e keeps = over ((site == s) && (user == process)) e
  where
    over : (b : Bool) → cond b (opened_by y (entries older) it fd (descriptor (entries older) s process fd)) (descriptor (entries older) s process fd) ≡ Some x → OpenedFile older v.file
    over true is = kept_left y (entries older) it fd (descriptor (entries older) s process fd) x v (OpenedFile older v.file) (λ m same version. opened_file c older it m v h (subst (AnswersInTime c older it) same may.in_time) version) (λ z at keep. k.kept s process fd z v at keep) is keeps
    over false is = k.kept s process fd x v is keeps
kept_record c older n r s process fd x v h may k e keeps = k.kept s process fd x v (left_record (entries older) n r s process fd x (λ z. z) e) keeps

reopens_record : (older : List Line) (n : ℕ) (r : Record) (d : CallId) (v : OneVersion) (last : EpochId) → AllOpened older → begun (record { line = n; what = r } ∷ entries older) d ≡ Some (begins.Reopens v last) → OpenedFile older v.file
reopens_record older n (says.Accept s process new words) d v last k e = over (same_call new d) e
  where
    from : FromSteady (descriptor (entries older) s process) words v last → OpenedFile older v.file
    from f = k.kept s process f.fd f.stands v f.found f.keeps

    over : (b : Bool) → cond b (Some (begins_now (entries older) s process new words)) (begun (entries older) d) ≡ Some (begins.Reopens v last) → OpenedFile older v.file
    over true is = from (reopens_from v last (descriptor (entries older) s process) (epoch_of (entries older) s) new words (some_same (begins_now (entries older) s process new words) (begins.Reopens v last) is))
    over false is = k.reopens d v last is
reopens_record older n r d v last k e = k.reopens d v last e

opened_told : (c : Config) (n : ℕ) (x : Told) (older : List Line) → IsFollowed c older → MayTell c older x → AllOpened older → AllOpened (With n x older)
opened_told c n (Shown r) older h may k = record {
  kept = λ s process fd x v e keeps. opened_stays c n (Shown r) older v.file h may (kept_record c older n r s process fd x v h may k e keeps);
  reopens = λ d v last e. opened_stays c n (Shown r) older v.file h may (reopens_record older n r d v last k e);
}
opened_told c n y older h may k = record {
  kept = λ s process fd x v e keeps. opened_stays c n y older v.file h may (k.kept s process fd x v e keeps);
  reopens = λ d v last e. opened_stays c n y older v.file h may (k.reopens d v last e);
}

all_opened : (c : Config) (t : List Line) → IsFollowed c t → AllOpened t
all_opened c [] h = record { kept = λ s process fd x v e. absurd (none_some x e); reopens = λ d v last e. absurd (none_some (begins.Reopens v last) e) }
all_opened c (x ∷ older) h = opened_told c x.number x.told older h.1 h.0 (all_opened c older h.1)

-- what a read opens again was granted to an open
pub again_opened : (c : Config) (t : List Line) → IsFollowed c t → (d : CallId) (v : OneVersion) (last : EpochId) → begun (entries t) d ≡ Some (begins.Reopens v last) → OpenedFile t v.file
again_opened c t h d v last e = (all_opened c t h).reopens d v last e
