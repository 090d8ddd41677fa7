-- A synchronization site serves looks as the tree does: each look record that it tells is lawful, its table stays true, and what
-- it sends is so.
use Rattle.std.proofs.Common.{◌≡◌, ℕ, ◌-◌, ◌<◌, ◌==◌, Bool, true, false, ◌&&◌, cond, List, [], ◌∷◌, ◌++◌, length, map, take, Option, Some, None, refl, sym, ap, ◌∙◌, subst, ◌⊎◌, inl, inr}
use Rattle.std.specs.List.{list_any}
use Rattle.role_steps.proofs.of_plain_facts.Numbers.{equal, equal_self}
use Rattle.role_steps.proofs.of_plain_facts.Options.{some_same}
use Rattle.role_steps.proofs.of_plain_facts.Tests.{and_first, and_second, and_true, true_false}
use Rattle.locus_ids.specs.declared.config.Config.{Config}
use Rattle.locus_ids.specs.declared.ids.CallId.{CallId}
use Rattle.locus_ids.specs.declared.ids.FileId.{FileId}
use Rattle.locus_ids.specs.declared.ids.Stamp.{Stamp}
use Rattle.locus_ids.specs.declared.refusal.Refusal.{Refusal}
use Rattle.locus_ids.specs.declared.sites.Members.{Members}
use Rattle.trace_book.specs.declared.operation.What.{What}
use Rattle.trace_book.specs.declared.operation.What.TheVariants as what
use Rattle.trace_book.specs.declared.operation.Served.{Served}
use Rattle.call_rules.specs.declared.want.Want.TheVariants as want
use Rattle.wire_messages.specs.declared.body.Body.{Body}
use Rattle.wire_messages.specs.declared.body.Body.TheVariants as body
use Rattle.wire_messages.specs.declared.packet.Packet.{Packet}
use Rattle.role_steps.specs.Looks.{LookRequest, Service, Denies, Serves, Letter, service, letter, serving_letter, look_record, look_key, last_look, is_look_before, is_same_look, answers_look, new_look, after_last, takes_look, result_of}
use Rattle.role_steps.specs.Opens.{call_id}
use Rattle.role_steps.specs.Own.{Every}
use Rattle.role_steps.specs.Reports.{on_look, waits_early, is_early_of}
use Rattle.role_steps.specs.Tables.{row, with_row}
use Rattle.role_steps.specs.Versions.{file_row, kept, row_ino}
use Rattle.role_steps.specs.Views.{Frame, Told, quiet, sends, packet, process_key, boot_in}
use Rattle.role_steps.specs.declared.synchronizing.Early.{Early}
use Rattle.role_steps.specs.declared.synchronizing.FileRow.{FileRow}
use Rattle.role_steps.specs.declared.synchronizing.LastLook.{LastLook}
use Rattle.role_steps.specs.declared.synchronizing.SyncTable.{SyncTable}
use Rattle.role_steps.specs.declared.synchronizing.VersionRow.{VersionRow}
use Rattle.role_steps.proofs.Rows.{row_same, row_other}
use Rattle.the_run.specs.Kept.{Among}
use Rattle.the_run.specs.Worlds.{Line}
use Rattle.tree_model.specs.declared.accepted.Waiting.{Waiting}
use Rattle.tree_model.specs.Calls.{call_named}
use Rattle.tree_model.specs.Given.{served_by}
use Rattle.tree_model.specs.Packs.{sync_site}
use Rattle.tree_model.specs.Same.{is_served as is_given_so}
use Rattle.tree_model.specs.Tree.{tree_of, kept_in}
use Rattle.lawful_trace.specs.Progress.{answers, wants_after}
use Rattle.lawful_trace.specs.TreeRows.{is_served, is_next_or_again, has_joined_some}
use Rattle.tree_laws.specs.Calls.{Asks, tries}
use Rattle.tree_laws.specs.Doing.{TableFine, IsOfTable}
use Rattle.tree_laws.specs.Following.{MayTell}
use Rattle.tree_laws.specs.Frames.{VersionsStay}
use Rattle.tree_laws.specs.Packets.{PacketFact, IsCallOf, LooksNow, LookFact, LookDoneFact, LookAnswers, file_in}
use Rattle.tree_laws.specs.Past.{WasLooked}
use Rattle.tree_laws.specs.Printed.{entries}
use Rattle.tree_laws.specs.Processes.{IsUpTo, IsUnder}
use Rattle.tree_laws.specs.Tables.{FileFact, RowFact, StartedFiles, FilesFact, Turn, TableFact, VersionFact, early_packet, is_look_of, last_turn, row_stamp, turn_of, IsRequestIn, WaitsIn}
use Rattle.tree_laws.proofs.Boots.{every_both}
use Rattle.tree_laws.proofs.Carried.{packet_stays}
use Rattle.tree_laws.proofs.CarriedLooks.{More, call_of_stays}
use Rattle.tree_laws.proofs.Hearing.{asks_look}
use Rattle.tree_laws.proofs.Names.{same_epoch_own}
use Rattle.tree_laws.proofs.Owing.{every_added}
use Rattle.tree_laws.proofs.Versions.{versions_stay}
use Rattle.tree_laws.specs.Syncs.Serving.{Serving}
use Rattle.tree_laws.specs.Syncs.Staying.{FilesStay}
use Rattle.tree_laws.proofs.Syncs.Files.{file_row_stays, files_stay, files_like}
use Rattle.tree_laws.proofs.Syncs.OpensStay.{open_row_stays, names_stay}
use Rattle.tree_laws.proofs.Looking.{looked_low}
use Rattle.tree_laws.proofs.Syncs.Members.{inside_joined, members_name_boots, table_boot}
use Rattle.tree_laws.proofs.Syncs.Rows.{row_every, row_key_is, every_among}
use Rattle.tree_laws.proofs.Syncs.Turns.{later_look, keys_differ}
use Rattle.tree_laws.proofs.Syncs.Versions.{row_stands, row_size}
use Rattle.the_run.proofs.InsideSync.{every_row}
use Rattle.tree_laws.specs.Instances.{Stands}
use Rattle.tree_model.specs.Files.{kind_of_file}
use Rattle.wire_messages.specs.declared.body.LookAnswer.{LookAnswer}
use Rattle.wire_messages.specs.declared.body.LookAnswer.TheVariants as looked
use Rattle.tree_laws.proofs.Syncs.Served.{ServedWell, AsksKept, AllHeld, served_well}

-- ---- outcomes that tell nothing ----

pub sends_fine : (c : Config) (n : ℕ) (trace : List Line) (f : Frame) (t : SyncTable) (ps : List Packet) (u : SyncTable) → u.group ≡ t.group → TableFact c trace f u → Every (PacketFact c trace) ps → TableFine c n trace f t.group (sends ps u)
sends_fine c n trace f t ps u same k sent = record { told = tt; own = tt; view = record { group_is = same; table = k }; sent = sent; written = tt }

pub early_fact : (c : Config) (trace : List Line) (f : Frame) (t : SyncTable) (us process : ℕ) (b : Body) → t.started ≡ false → IsRequestIn t.group b → PacketFact c trace (early_packet f (record { site = us; process = process; body = b })) → TableFact c trace f t → TableFact c trace f (waits_early us process b t)
early_fact c trace f t us process b waits here p k = over (list_any (is_early_of us process) t.early)
  where
    over : (x : Bool) → TableFact c trace f (cond x t (record t { early = t.early ++ record { site = us; process = process; body = b } ∷ [] }))
    over true = k
    over false = record {
      started = k.started;
      early = every_added (λ (e : Early). PacketFact c trace (early_packet f e)) t.early (record { site = us; process = process; body = b }) k.early p;
      early_here = every_added (WaitsIn t.group) t.early (record { site = us; process = process; body = b }) k.early_here here;
      early_only = λ s. absurd (true_false (sym s ∙ waits));
      all = λ s. absurd (true_false (sym s ∙ waits));
      rows = k.rows;
      rise = k.rise;
      files = files_like c trace f t (t.early ++ record { site = us; process = process; body = b } ∷ []) t.opens t.looks t.started k.files;
      opens = k.opens;
      apart = k.apart;
      has = k.has;
      openers_are = k.openers_are;
      turns = k.turns;
      looks = k.looks;
    }

pub early_group : (us process : ℕ) (b : Body) (t : SyncTable) → (waits_early us process b t).group ≡ t.group
early_group us process b t = over (list_any (is_early_of us process) t.early)
  where
    over : (x : Bool) → (cond x t (record t { early = t.early ++ record { site = us; process = process; body = b } ∷ [] })).group ≡ t.group
    over true = refl
    over false = refl

-- ---- a new look ----

module _ (c : Config) (n : ℕ) (trace : List Line) (f : Frame) (tab : SyncTable) (sv : Serving c n trace f tab) where
  pub group_served : is_served c (entries trace) f.epoch tab.group ≡ true
  group_served =
      ap (λ (o : Option Members). has_joined_some (entries trace) f.epoch (sync_site c tab.group o)) sv.frame.members_are
      ∙ (ap (λ (o : Option ℕ). has_joined_some (entries trace) f.epoch o) sv.serves ∙ inside_joined c trace sv.followed f.me f.epoch sv.frame.inside)

  all_held : (ino : ℕ) (o : Option FileRow) → file_row tab ino ≡ o → AllHeld o
  all_held ino None e = tt
  all_held ino (Some r) e = (row_every (FileFact c trace f.epoch tab.group) row_ino ino tab.files r sv.table.rows e).held

  module _ (started : tab.started ≡ true) (us : ℕ) (l : LookRequest) (group_is : l.file.group ≡ tab.group) (call : CallId) (is_call : IsCallOf trace f.epoch us l.call l.process call) where
    abbrev d : CallId
    d = call_id f us l.call

    its : d ≡ call
    its = λ i. record { site = sym is_call.site_is i; boot = boot i; n = sym is_call.number_is i }
      where
        boot : boot_in f.members.boot us ≡ call.boot
        boot = subst (λ (s : ℕ). boot_in f.members.boot s ≡ call.boot) is_call.site_is (table_boot f.members call.site ∙ members_name_boots c trace sv.followed f.epoch call f.members is_call.inside sv.frame.members_are)

    here : IsCallOf trace f.epoch us l.call l.process d
    here = subst (IsCallOf trace f.epoch us l.call l.process) (sym its) is_call

    small : l.process < 256
    small = subst (λ (p : ℕ). p < 256) here.process_is (sv.calls.small d here.caller here.named)

    file_is : file_in tab.group l.file.ino ≡ l.file
    file_is = λ i. record { group = sym group_is i; ino = l.file.ino }

    is_started : (tree_of c f.epoch l.file.group (entries trace)).started ≡ true
    is_started = subst (λ (g : ℕ). (tree_of c f.epoch g (entries trace)).started ≡ true) (sym group_is) (sym sv.table.started ∙ started)

    files : StartedFiles c trace f tab
    files = subst (FilesFact c trace f tab) started sv.table.files

    abbrev ks : List Stamp
    ks = kept_in c (entries trace) f.epoch l.file

    kept_is : map row_stamp (kept (file_row tab l.file.ino)) ≡ ks
    kept_is = subst (λ (g : FileId). map row_stamp (kept (file_row tab l.file.ino)) ≡ kept_in c (entries trace) f.epoch g) file_is (files.kept_is l.file.ino)

    module _ (now : LooksNow c trace d l.request l.take l.file l.what) where
      asks_kept : (w : What) → Asks c trace d (want.Look l.file w) → AsksKept w ks
      asks_kept (what.Name component) asks = tt
      asks_kept what.List asks = tt
      asks_kept what.Stat asks = tt
      asks_kept (what.Whole stamp) asks = sv.calls.wholes f.epoch d l.file stamp here.inside asks

      gives_so : (s : Service) → ServedWell (served_by l.what ks) (file_row tab l.file.ino) s → is_given_so (served_by l.what ks) (result_of s) ≡ true
      gives_so (Denies why) w = w
      gives_so (Serves v site) w = w.0

      module _ (s : Service) (well : ServedWell (served_by l.what ks) (file_row tab l.file.ino) s) where
        abbrev x : Told
        x = look_record f us l s

        may : MayTell c trace x
        may = record {
          row = record {
            gives = and_true (tree_of c f.epoch l.file.group (entries trace)).started _ is_started (gives_so s well);
            served = subst (λ (g : ℕ). is_served c (entries trace) f.epoch g ≡ true) (sym group_is) group_served;
            step = here.inside;
            numbered = subst (λ (k : ℕ). is_next_or_again k (length (answers c (entries trace) d)) ≡ true) (sym now.request_is) (asks_look c trace d l.file l.what sv.followed now.asks).1;
            asked = subst (λ (k : ℕ). wants_after c (entries trace) d (take (k - 1) (answers c (entries trace) d)) ≡ want.Look l.file l.what) (sym now.request_is) (asks_look c trace d l.file l.what sv.followed now.asks).0;
          };
          in_time = record { asks = now.asks; request_is = now.request_is };
        }

        own : IsOfTable f tab.group x
        own = (refl, group_is)

        stay : FilesStay c trace (More n x trace) x
        stay = sv.stay x may own

        vs : VersionsStay c trace (More n x trace)
        vs = versions_stay c n x trace sv.followed may stay.stay.fresh stay.stay.order

        looked_so : WasLooked (More n x trace) f.epoch d l.request l.take l.file l.what (result_of s)
        looked_so = inl (record { epoch_is = refl; call_is = refl; request_is = refl; tries_are = sym now.tries_are; file_is = refl; what_is = refl; served_is = refl })

        done_fact : (a : LookAnswer) → LookAnswers c (More n x trace) l.file l.what (result_of s) a → LookDoneFact c (More n x trace) f.epoch us (boot_in f.members.boot us) l.call l.request l.take a
        done_fact a k = record { call = d; call_is = refl; file = l.file; what = l.what; result = result_of s; looked_so = looked_so; answer = k }

        turns : (a : Letter) (at process : ℕ) → process < 256 → turn_of (row look_key (process_key at process) (with_row look_key (last_look us l a) tab.looks)) ≡ last_turn (More n x trace) f.epoch tab.group at process
        turns a at process low = over ((us == at) && (l.process == process)) refl ∙ sym (ap (λ (b : Bool). cond b (Some (record { call = l.call; request = l.request; times = tries trace d })) (last_turn trace f.epoch tab.group at process)) is_its)
          where
            is_its : is_look_of trace f.epoch tab.group at f.epoch d l.file (call_named (entries trace) d) process ≡ (us == at) && (l.process == process)
            is_its =
                ap (λ (o : Option Waiting). is_look_of trace f.epoch tab.group at f.epoch d l.file o process) here.named
                ∙ (ap (λ (b : Bool). b && ((l.file.group == tab.group) && ((us == at) && (here.caller.process == process)))) (same_epoch_own f.epoch)
                ∙ (ap (λ (b : Bool). b && ((us == at) && (here.caller.process == process))) (subst (λ (g : ℕ). (l.file.group == g) ≡ true) group_is (equal_self l.file.group))
                ∙ ap (λ (p : ℕ). (us == at) && (p == process)) here.process_is))

            same_key : us ≡ at → l.process ≡ process → turn_of (row look_key (process_key at process) (with_row look_key (last_look us l a) tab.looks)) ≡ Some (record { call = l.call; request = l.request; times = tries trace d })
            same_key e g =
                ap (λ (k : ℕ). turn_of (row look_key k (with_row look_key (last_look us l a) tab.looks))) (sym (ap (λ (z : ℕ). process_key z l.process) e ∙ ap (λ (z : ℕ). process_key at z) g))
                ∙ (ap turn_of (row_same look_key (last_look us l a) tab.looks) ∙ ap (λ (k : ℕ). Some (record { call = l.call; request = l.request; times = k })) now.tries_are)

            over : (b : Bool) → (us == at) && (l.process == process) ≡ b → turn_of (row look_key (process_key at process) (with_row look_key (last_look us l a) tab.looks)) ≡ cond b (Some (record { call = l.call; request = l.request; times = tries trace d })) (last_turn trace f.epoch tab.group at process)
            over true e = same_key (equal us at (and_first (us == at) _ e)) (equal l.process process (and_second (us == at) _ e))
            over false e = ap turn_of (row_other look_key (last_look us l a) (process_key at process) tab.looks (keys_differ us l.process at process small low e)) ∙ sv.table.turns at process low

        after : (a : Letter) → PacketFact c (More n x trace) (packet f a.to a.body) → TableFact c (More n x trace) f (record tab { looks = with_row look_key (last_look us l a) tab.looks })
        after a p = record {
          started = sv.table.started;
          early = every_both (λ (e : Early). PacketFact c trace (early_packet f e)) (λ (e : Early). PacketFact c (More n x trace) (early_packet f e)) tab.early (λ e k. packet_stays c n x trace sv.followed may stay.stay (early_packet f e) k) sv.table.early;
          early_here = sv.table.early_here;
          early_only = sv.table.early_only;
          all = sv.table.all;
          rows = every_both (FileFact c trace f.epoch tab.group) (FileFact c (More n x trace) f.epoch tab.group) tab.files (file_row_stays c trace (More n x trace) vs f.epoch tab.group) sv.table.rows;
          rise = sv.table.rise;
          files = files_like c (More n x trace) f tab tab.early tab.opens (with_row look_key (last_look us l a) tab.looks) tab.started (files_stay c n x trace sv.followed may stay f tab (λ k. k) (λ k. k) tab.started (sym sv.table.started) sv.table.files);
          opens = every_both (RowFact c trace f.epoch tab.group) (RowFact c (More n x trace) f.epoch tab.group) tab.opens (λ r k. open_row_stays c n x trace sv.followed may vs f tab.group (λ z. z) r (λ z. z) k) sv.table.opens;
          apart = sv.table.apart;
          has = λ i w. sv.table.has i (names_stay n trace f tab.group x (λ k. k) i w);
          openers_are = sv.table.openers_are;
          turns = turns a;
          looks = every_row (λ (z : LastLook). PacketFact c (More n x trace) (packet f z.to z.body)) look_key (last_look us l a) tab.looks p
              (every_both (λ (z : LastLook). PacketFact c trace (packet f z.to z.body)) (λ (z : LastLook). PacketFact c (More n x trace) (packet f z.to z.body)) tab.looks (λ z k. packet_stays c n x trace sv.followed may stay.stay (packet f z.to z.body) k) sv.table.looks);
        }

        fine : (a : Letter) → PacketFact c (More n x trace) (packet f a.to a.body) → TableFine c n trace f tab.group (answers_look f us l s a tab)
        fine a p = record { told = (may, tt); own = (own, tt); view = record { group_is = refl; table = after a p }; sent = (p, tt); written = tt }

      -- what is sent of it
      denied_fine : (o : Option FileRow) (why : Refusal) → (w : ServedWell (served_by l.what ks) (file_row tab l.file.ino) (Denies why)) → TableFine c n trace f tab.group (answers_look f us l (Denies why) (letter us l o (Denies why)) tab)
      denied_fine None why w = fine (Denies why) w (letter us l None (Denies why)) (done_fact (Denies why) w (looked.No why) refl)
      denied_fine (Some r) why w = fine (Denies why) w (letter us l (Some r) (Denies why)) (done_fact (Denies why) w (looked.No why) refl)

      module _ (v : VersionRow) (site : ℕ) (w : ServedWell (served_by l.what ks) (file_row tab l.file.ino) (Serves v site)) (r : FileRow) (found : file_row tab l.file.ino ≡ Some r) (among : Among v r.kept) where
        row_fact : FileFact c trace f.epoch tab.group r
        row_fact = row_every (FileFact c trace f.epoch tab.group) row_ino l.file.ino tab.files r sv.table.rows found

        row_is : file_in tab.group r.ino ≡ l.file
        row_is = ap (λ (i : ℕ). file_in tab.group i) (row_key_is row_ino l.file.ino tab.files r found) ∙ file_is

        version : VersionFact c trace l.file v
        version = subst (λ (g : FileId). VersionFact c trace g v) row_is (every_among (VersionFact c trace (file_in tab.group r.ino)) r.kept v row_fact.keeps among)

        stands : Stands c trace l.file v.stamp
        stands = row_stands c trace l.file v version

        abbrev y : Told
        y = look_record f us l (Serves v site)

        stat_fine : l.what ≡ what.Stat → TableFine c n trace f tab.group (answers_look f us l (Serves v site) (serving_letter us l r v site what.Stat) tab)
        stat_fine e = fine (Serves v site) w (serving_letter us l r v site what.Stat) (done_fact (Serves v site) w (looked.Stat r.kind v.size v.stamp) (
          versions.stands l.file v.stamp stands,
          (
            e,
            subst (λ (g : FileId). r.kind ≡ kind_of_file c (entries trace) g) row_is row_fact.kind_is ∙ sym (versions.kinds l.file v.stamp stands),
            row_size c trace l.file v version ∙ ap length (sym (versions.contents l.file v.stamp stands)),
            refl,
          ),
        ))
          where
            versions : VersionsStay c trace (More n y trace)
            versions = vs (Serves v site) w

        passed_fine : (a : Letter) → a ≡ record { to = site; body = body.LookSs us l.call l.process l.request l.take l.file l.what v.stamp } → TableFine c n trace f tab.group (answers_look f us l (Serves v site) a tab)
        passed_fine a e = subst (λ (b : Letter). TableFine c n trace f tab.group (answers_look f us l (Serves v site) b tab)) (sym e) (fine (Serves v site) w (record { to = site; body = body.LookSs us l.call l.process l.request l.take l.file l.what v.stamp })
            (record { call = d; is_call = call_of_stays c n y trace sv.followed (may (Serves v site) w) f.epoch us l.call l.process d here; looked_so = looked_so (Serves v site) w }))

        serving_fine : (q : What) → l.what ≡ q → TableFine c n trace f tab.group (answers_look f us l (Serves v site) (serving_letter us l r v site q) tab)
        serving_fine (what.Name component) e = passed_fine (serving_letter us l r v site (what.Name component)) refl
        serving_fine what.List e = passed_fine (serving_letter us l r v site what.List) refl
        serving_fine what.Stat e = stat_fine e
        serving_fine (what.Whole stamp) e = passed_fine (serving_letter us l r v site (what.Whole stamp)) refl

      served_fine : (o : Option FileRow) → file_row tab l.file.ino ≡ o → (s : Service) → ServedWell (served_by l.what ks) (file_row tab l.file.ino) s → TableFine c n trace f tab.group (answers_look f us l s (letter us l o s) tab)
      served_fine o e (Denies why) w = denied_fine o why w
      served_fine None e (Serves v site) w = absurd (none w.1.0 (sym e ∙ w.1.1))
        where
          none : (r : FileRow) → ◌≡◌ {A = Option FileRow} None (Some r) → ⊥
          none r k = cc
      served_fine (Some r) e (Serves v site) w = serving_fine v site w r e (subst (λ (q : FileRow). Among v q.kept) (some_same w.1.0 r (sym w.1.1 ∙ e)) w.1.2) l.what refl

      pub new_fine : TableFine c n trace f tab.group (new_look f us l (file_row tab l.file.ino) tab)
      new_fine = served_fine (file_row tab l.file.ino) refl (service f us l.what (file_row tab l.file.ino))
          (served_well f us l.what (file_row tab l.file.ino) ks kept_is (all_held l.file.ino (file_row tab l.file.ino) refl) (asks_kept l.what now.asks))

    -- ---- a look that comes ----

    abbrev key : ℕ
    key = process_key us l.process

    -- what stood before is up to the last one of its process
    under : (result : Served) → WasLooked trace f.epoch d l.request l.take l.file l.what result → (last : Turn) × (turn_of (row look_key key tab.looks) ≡ Some last) × IsUpTo (record { call = l.call; request = l.request; times = l.take }) last
    under result was = (it.last, sv.table.turns us l.process small ∙ (sym at ∙ it.last_is), it.under)
      where
        it : IsUnder trace f.epoch d l.request l.take l.file.group
        it = looked_low c trace sv.followed sv.calls.only f.epoch d l.request l.take l.file l.what result was

        process_is : it.inside.accepted.process ≡ l.process
        process_is = ap (λ (w : Waiting). w.process) (some_same it.inside.accepted here.caller (sym it.inside.named ∙ here.named)) ∙ here.process_is

        at : last_turn trace f.epoch l.file.group us it.inside.accepted.process ≡ last_turn trace f.epoch tab.group us l.process
        at = ap (λ (g : ℕ). last_turn trace f.epoch g us it.inside.accepted.process) group_is ∙ ap (λ (p : ℕ). last_turn trace f.epoch tab.group us p) process_is

    abbrev StandsOr : Type 0
    StandsOr = ((result : Served) × WasLooked trace f.epoch d l.request l.take l.file l.what result) ⊎ LooksNow c trace d l.request l.take l.file l.what

    first_now : row look_key key tab.looks ≡ None → StandsOr → LooksNow c trace d l.request l.take l.file l.what
    first_now e (inr now) = now
    first_now e (inl was) = (let u : (last : Turn) × (turn_of (row look_key key tab.looks) ≡ Some last) × IsUpTo (record { call = l.call; request = l.request; times = l.take }) last = under was.0 was.1 in absurd (none u.0 (sym (ap turn_of e) ∙ u.1)))
      where
        none : (t : Turn) → ◌≡◌ {A = Option Turn} None (Some t) → ⊥
        none t k = cc

    later_now : (last : LastLook) → row look_key key tab.looks ≡ Some last → is_look_before l last ≡ false → is_same_look l last ≡ false → StandsOr → LooksNow c trace d l.request l.take l.file l.what
    later_now last e before same (inr now) = now
    later_now last e before same (inl was) = (let u : (t : Turn) × (turn_of (row look_key key tab.looks) ≡ Some t) × IsUpTo (record { call = l.call; request = l.request; times = l.take }) t = under was.0 was.1 in
        absurd (later_look l last before same (subst (IsUpTo (record { call = l.call; request = l.request; times = l.take })) (sym (some_same (record { call = last.call; request = last.request; times = last.take }) u.0 (sym (ap turn_of e) ∙ u.1))) u.2)))

    came : StandsOr → (o : Option LastLook) → row look_key key tab.looks ≡ o → TableFine c n trace f tab.group (after_last f us l o tab)
    came k None e = new_fine (first_now e k)
    came k (Some last) e = at (is_look_before l last) refl
      where
        inner : (b : Bool) → is_look_before l last ≡ false → is_same_look l last ≡ b → TableFine c n trace f tab.group (elim b [ true ↦ sends (packet f last.to last.body ∷ []) tab | false ↦ new_look f us l (file_row tab l.file.ino) tab ])
        inner true before same = sends_fine c n trace f tab (packet f last.to last.body ∷ []) tab refl sv.table (row_every (λ (z : LastLook). PacketFact c trace (packet f z.to z.body)) look_key key tab.looks last sv.table.looks e, tt)
        inner false before same = new_fine (later_now last e before same k)

        at : (b : Bool) → is_look_before l last ≡ b → TableFine c n trace f tab.group (elim b [ true ↦ quiet tab | false ↦ elim (is_same_look l last) [ true ↦ sends (packet f last.to last.body ∷ []) tab | false ↦ new_look f us l (file_row tab l.file.ino) tab ] ])
        at true before = sends_fine c n trace f tab [] tab refl sv.table tt
        at false before = inner (is_same_look l last) before refl

    pub takes_fine : StandsOr → TableFine c n trace f tab.group (takes_look f us l tab)
    takes_fine k = came k (row look_key key tab.looks) refl

  pub look_fine : (us : ℕ) (l : LookRequest) → l.file.group ≡ tab.group → LookFact c trace f.epoch us l.call l.process l.request l.take l.file l.what → TableFine c n trace f tab.group (on_look f us l tab)
  look_fine us l group_is k = over tab.started refl
    where
      over : (b : Bool) → tab.started ≡ b → TableFine c n trace f tab.group (elim b [ true ↦ takes_look f us l tab | false ↦ quiet (waits_early us l.process (body.Look l.call l.process l.request l.take l.file l.what) tab) ])
      over true e = takes_fine e us l group_is k.call k.is_call (subst (λ (x : CallId). ((result : Served) × WasLooked trace f.epoch x l.request l.take l.file l.what result) ⊎ LooksNow c trace x l.request l.take l.file l.what) (sym (its e us l group_is k.call k.is_call)) k.stands)
      over false e = sends_fine c n trace f tab [] (waits_early us l.process (body.Look l.call l.process l.request l.take l.file l.what) tab) (early_group us l.process (body.Look l.call l.process l.request l.take l.file l.what) tab)
          (early_fact c trace f tab us l.process (body.Look l.call l.process l.request l.take l.file l.what) e (sym group_is) k sv.table) tt
