-- What a site reports it has until its group starts in the epoch; and what stands is what it was.
use Rattle.std.proofs.Common.{◌≡◌, ℕ, Bool, true, false, List, [], ◌∷◌, filter, Option, Some, refl, sym, ap, ◌∙◌, subst, ◌⊎◌, inl, inr}
use Rattle.tree_laws.proofs.of_plain_facts.Numbers.{equal}
use Rattle.tree_laws.proofs.of_plain_facts.Tests.{true_false}
use Rattle.locus_ids.specs.declared.config.Config.{Config}
use Rattle.locus_ids.specs.declared.ids.EpochId.{EpochId}
use Rattle.locus_ids.specs.declared.ids.FileId.{FileId}
use Rattle.locus_ids.specs.declared.ids.Stamp.{Stamp}
use Rattle.trace_book.specs.declared.record.Record.{Record}
use Rattle.trace_book.specs.declared.record.Record.TheVariants as says
use Rattle.wire_messages.specs.declared.body.ReportedCopy.{ReportedCopy}
use Rattle.site_laws.specs.of_role_steps.Own.{Every}
use Rattle.site_laws.specs.of_role_steps.Views.{Told, Shown}
use Rattle.tree_laws.specs.of_the_run.Worlds.{Line}
use Rattle.tree_model.specs.declared.instance.Instance.{Instance}
use Rattle.tree_model.specs.Epochs.{epoch_of, has_joined, is_in}
use Rattle.tree_model.specs.Files.{HeldVersion, version_of}
use Rattle.tree_model.specs.Folds.{Trace}
use Rattle.tree_model.specs.Histories.{history}
use Rattle.tree_model.specs.State.{TreeState, held_at, held_of, is_inside}
use Rattle.tree_model.specs.Tree.{next, tree_of}
use Rattle.tree_laws.specs.of_lawful_trace.TreeRows.{is_writing}
use Rattle.tree_laws.specs.Following.{IsFollowed, MayTell}
use Rattle.tree_laws.specs.Frames.{IsFresh}
use Rattle.tree_laws.specs.Instances.{IsVersion, Stands, held_in}
use Rattle.tree_laws.specs.Packets.{ReportFact, ReportedNow, file_in}
use Rattle.tree_laws.specs.Printed.{entries, onto_entries}
use Rattle.tree_laws.proofs.Histories.{content_same, stands_more, vector_same}
use Rattle.tree_laws.proofs.Kinship.{started_stays}
use Rattle.tree_laws.proofs.Names.{same_epoch_eq}
use Rattle.tree_laws.proofs.Origins.{kind_same, set_same}
use Rattle.tree_laws.proofs.Owing.{inside_is}
use Rattle.tree_laws.proofs.Rows.{followed_rows}
use Rattle.tree_laws.proofs.Orders.Alone.{tree_is, tree_named}
use Rattle.tree_laws.proofs.Orders.Started.{rows_started}
use Rattle.store_laws.proofs.Holdings.Copies.{copy_after, copy_next, joined_more}
use Rattle.store_laws.proofs.Holdings.Made.{filter_one}
use Rattle.store_laws.proofs.Holdings.Rising.{Hit, joined_or, written_or}

-- ---- versions ----

pub version_same : (c : Config) (n : ℕ) (x : Told) (older : List Line) → IsFollowed c older → MayTell c older x → IsFresh c older x → (f : FileId) (s : Stamp) → Stands c older f s → version_of c (onto_entries n x (entries older)) f s ≡ version_of c (entries older) f s
version_same c n x older followed may fresh f s k = over (kind_same c n x older f s followed may k) (set_same c n x older f s followed may k) (vector_same c n x older f s fresh k) (content_same c n x older f s fresh k)
  where
    over : (version_of c (onto_entries n x (entries older)) f s).kind ≡ (version_of c (entries older) f s).kind → (version_of c (onto_entries n x (entries older)) f s).set ≡ (version_of c (entries older) f s).set →
        (version_of c (onto_entries n x (entries older)) f s).vector ≡ (version_of c (entries older) f s).vector → (version_of c (onto_entries n x (entries older)) f s).content ≡ (version_of c (entries older) f s).content →
        version_of c (onto_entries n x (entries older)) f s ≡ version_of c (entries older) f s
    over a b d e = λ i. record { kind = a i; set = b i; stamp = s; vector = d i; content = e i }

pub version_stays : (c : Config) (n : ℕ) (x : Told) (older : List Line) → IsFollowed c older → MayTell c older x → IsFresh c older x → (f : FileId) (v : HeldVersion) → IsVersion c older f v → IsVersion c (record { number = n; told = x } ∷ older) f v
version_stays c n x older followed may fresh f v k = record { stands = stands_more c n x older f v.stamp k.stands; same = k.same ∙ sym (version_same c n x older followed may fresh f v.stamp k.stands) }

-- ---- before the start nothing is written ----

module _ (c : Config) (older : List Line) (n : ℕ) (followed : IsFollowed c older) (e : EpochId) (group site : ℕ) (unstarted : (tree_of c e group (entries older)).started ≡ false) (joined : has_joined (entries older) site e ≡ true) where
  abbrev before : Trace
  before = entries older

  abbrev t : TreeState
  t = tree_of c e group before

  named : (t.epoch ≡ e) × (t.group ≡ group)
  named = tree_named c e group before

  epoch_named : (z : ℕ) (d : EpochId) → is_inside t z ≡ true → epoch_of before z ≡ Some d → d ≡ e
  epoch_named z d inside at = same_epoch_eq d e (sym (ap (λ (o : Option EpochId). is_in o e) at) ∙ (sym (inside_is c before e group z) ∙ inside))

  pub nothing_written : (r : Record) → MayTell c older (Shown r) → (ino : ℕ) → held_at (next (history c before) r t) site ino ≡ held_at t site ino
  nothing_written (says.Join z d m) may ino = ap held_of (copy_next (history c before) t (says.Join z d m) site ino) ∙ over (joined_or t d z site ino)
    where
      over : (held_of (copy_after (says.Join z d m) t site ino) ≡ held_at t site ino) ⊎ ((d ≡ t.epoch) × (z ≡ site)) → held_of (copy_after (says.Join z d m) t site ino) ≡ held_at t site ino
      over (inl same) = same
      over (inr p) = absurd (true_false (sym joined ∙ (ap (λ (y : ℕ). has_joined before y e) (sym p.1) ∙ (ap (λ (y : EpochId). has_joined before z y) (sym (p.0 ∙ named.0)) ∙ may.row.new))))
  nothing_written (says.Commit f z stamp parents content) may ino = ap held_of (copy_next (history c before) t (says.Commit f z stamp parents content) site ino) ∙ over (written_or t f z stamp site ino)
    where
      started : Hit t f z site ino → t.started ≡ true
      started hit = filter_one (λ (x : Instance). t.started ≡ true) (is_writing f) t.instances may.row.instance
          (subst (λ (u : TreeState). filter (is_writing f) u.instances ≡ may.row.instance ∷ []) (tree_is c e may.row.epoch group f.group before (epoch_named z may.row.epoch hit.inside may.row.inside) (equal f.group t.group hit.group_is ∙ named.1)) may.row.one)
          (rows_started c before (followed_rows c older followed) e group)

      over : (held_of (copy_after (says.Commit f z stamp parents content) t site ino) ≡ held_at t site ino) ⊎ (Hit t f z site ino × (held_of (copy_after (says.Commit f z stamp parents content) t site ino) ≡ Some stamp)) → held_of (copy_after (says.Commit f z stamp parents content) t site ino) ≡ held_at t site ino
      over (inl same) = same
      over (inr hit) = absurd (true_false (sym (started hit.0) ∙ unstarted))
  nothing_written (says.Adopt f z stamp) may ino = ap held_of (copy_next (history c before) t (says.Adopt f z stamp) site ino) ∙ over (written_or t f z stamp site ino)
    where
      started : Hit t f z site ino → t.started ≡ true
      started hit = subst (λ (g : ℕ). (tree_of c e g before).started ≡ true) (equal f.group t.group hit.group_is ∙ named.1) (subst (λ (y : EpochId). (tree_of c y f.group before).started ≡ true) (epoch_named z may.in_time.epoch hit.inside may.in_time.inside) may.in_time.started)

      over : (held_of (copy_after (says.Adopt f z stamp) t site ino) ≡ held_at t site ino) ⊎ (Hit t f z site ino × (held_of (copy_after (says.Adopt f z stamp) t site ino) ≡ Some stamp)) → held_of (copy_after (says.Adopt f z stamp) t site ino) ≡ held_at t site ino
      over (inl same) = same
      over (inr hit) = absurd (true_false (sym (started hit.0) ∙ unstarted))
  nothing_written r may ino = ap held_of (copy_next (history c before) t r site ino)

-- ---- reports ----

pub report_stays : (c : Config) (older : List Line) (n : ℕ) (x : Told) → IsFollowed c older → MayTell c older x → IsFresh c older x → (e : EpochId) (site group : ℕ) (copies : List ReportedCopy) → ReportFact c older e site group copies → ReportFact c (record { number = n; told = x } ∷ older) e site group copies
report_stays c older n x followed may fresh e site group copies (inl started) = inl (started_stays c n x older e group started)
report_stays c older n x followed may fresh e site group copies (inr k) = at (tree_of c e group (entries older)).started refl
  where
    -- what is held stays
    held_same : (x : Told) → MayTell c older x → (tree_of c e group (entries older)).started ≡ false → (ino : ℕ) → held_in c (onto_entries n x (entries older)) e site (file_in group ino) ≡ held_in c (entries older) e site (file_in group ino)
    held_same (Shown r) may un ino = nothing_written c older n followed e group site un k.joined r may ino
    held_same _ may un ino = refl

    still_joined : (x : Told) → has_joined (onto_entries n x (entries older)) site e ≡ true
    still_joined (Shown r) = joined_more r n (entries older) site e k.joined
    still_joined _ = k.joined

    each : (tree_of c e group (entries older)).started ≡ false → (xs : List ReportedCopy) → Every (ReportedNow c older e site group) xs → Every (ReportedNow c (record { number = n; told = x } ∷ older) e site group) xs
    each un [] all = tt
    each un (y ∷ ys) all = (
      record {
        version = all.0.version;
        is_version = version_stays c n x older followed may fresh (file_in group y.ino) all.0.version all.0.is_version;
        held = held_same x may un y.ino ∙ all.0.held;
        same = all.0.same;
      },
      each un ys all.1,
    )

    at : (b : Bool) → (tree_of c e group (entries older)).started ≡ b → ReportFact c (record { number = n; told = x } ∷ older) e site group copies
    at true started = inl (started_stays c n x older e group started)
    at false un = inr (record {
      joined = still_joined x;
      each = each un copies k.each;
      all = λ ino stamp h. k.all ino stamp (sym (held_same x may un ino) ∙ h);
    })
