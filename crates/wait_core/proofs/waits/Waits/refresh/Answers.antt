use Rattle.wait_core.proofs.Common.{◌≡◌, ◌≢◌, refl, All, subst, sym, AllPairs, Wait, locks_of, TellsWait, waits_on, changed_files, waits_of, policy_of, has_pair, IsWellFormed}
use Rattle.wait_core.specs.Pairs.{IsElsewhere}
use Rattle.wait_core.proofs.FileLemmas.{all_from, all_on, length_on, on_file_on, well_formed_on}
use Rattle.wait_core.proofs.LinkLemmas.{lead_apart}
use Rattle.wait_core.proofs.PairLemmas.{told-refresh}
use Rattle.wait_core.proofs.waits.Waits.refresh.Goals as goal

pub on-requires : goal.on-requires
on-requires c =
    let self = c.args.self.now in
    (waits_on self.waits.items, self.linked, length_on self.waits.items c.args.file self.short)

pub tell_all-requires-clause-waits : goal.tell_all-requires-clause-waits
tell_all-requires-clause-waits c =
    let self = c.args.self.now in
    subst (All (IsWellFormed 64)) (sym (c.on.ensures (waits_on self.waits.items) self.linked (length_on self.waits.items c.args.file self.short)))
    (well_formed_on self.processes self.waits.items c.args.file self.few self.well_formed)

pub tell_all-requires-clause-apart : goal.tell_all-requires-clause-apart
tell_all-requires-clause-apart c =
    let self = c.args.self.now in
    subst (AllPairs (λ (v w : Wait). v.p ≢ w.p)) (sym (c.on.ensures (waits_on self.waits.items) self.linked (length_on self.waits.items c.args.file self.short)))
    (lead_apart _ c.args.file _ (waits_on self.waits.items c.args.file) (self.linked.lead c.args.file))

pub returns-clause-told : goal.returns-clause-told
unfolding waits_of has_pair
returns-clause-told c locks was agree =
    let self = c.args.self.now in
    let waits = self.waits.items in
    let file = c.args.file in
    let on = c.on.ensures (waits_on waits) self.linked (length_on waits file self.short) in
    let Tells = TellsWait c.tell_all.new.self (locks_of c.args.books.now) in
    c.touch.ensures.told (locks_of c.args.books.now)
    (told-refresh self _ locks (locks_of c.args.books.now) file refl self.apart
    (all_from (λ w. w.file ≡ file → Tells w) file (λ w other here. absurd (other here)) waits
    (λ k d within here. subst (All Tells) on c.tell_all.ensures.told k d within))
    (λ p q elsewhere. c.tell_all.ensures.others p q (subst (All (λ w. w.p ≢ p)) (sym on)
    (λ k d within same. all_on (IsElsewhere p file) file waits elsewhere k d within same (on_file_on waits file k d within)))) agree was)

pub returns-clause-blocked : goal.returns-clause-blocked
unfolding waits_of policy_of changed_files
returns-clause-blocked c within locks was agree =
    c.touch.ensures.blocked within locks (locks_of c.args.books.now) (record { blocked = was.blocked }) agree
