use Rattle.history_judge.proofs.Common.{◌≡◌, ◌≢◌, ℕ, None, Some, subst, true, get, deref_pair, nat_cmp, All, FileHistory, keeps_order, file_in}
use Rattle.std.proofs.lemmas.List.Elements.{All-map, All-push}
use Rattle.std.proofs.lemmas.Map.Iter.{iter_end}
use Rattle.history_judge.proofs.FilesLemmas.{all_there, are_more, entry_in_loop, still_there}
use Rattle.history_judge.proofs.files.Files.orders.Goals as goal

pub loop-file-preserved : goal.loop-file-preserved
loop-file-preserved c =
    let gives = c.into_iter-file-iterator.ensures.into_iter_gives in
    let here : file_in c.args.self.now c.in-Some.file.now ≡ Some c.in-Some.history.now =
    entry_in_loop c.args.self.now c.loop-file.yielded _ _ _ _ (c.in-Some.file, c.in-Some.history) gives.0 c.loop-file.yielded_by c.in-Some.is
    c.next.ensures.steps gives.5 in
    let puts = c.in_ok-put_order.ensures in
    record {
      sound = are_more c.args.self.now.files c.loop-file.orders c.put_order.new.orders c.in-Some.file.now c.in-Some.history.now here puts c.loop-file.invariant.sound;
      complete = All-push (λ p. keeps_order p.1.now ≡ true → get nat_cmp c.put_order.new.orders p.0.now ≢ None) c.loop-file.yielded (c.in-Some.file, c.in-Some.history)
          (λ k d below keeps. still_there c.loop-file.orders c.put_order.new.orders c.in-Some.file.now c.in-Some.history.now puts _
          (c.loop-file.invariant.complete k d below keeps)) puts.puts;
    }

pub returns : goal.returns
returns c =
    let gives = c.into_iter-file-iterator.ensures.into_iter_gives in
    let whole = (iter_end deref_pair c.args.self.now.files.entries c.loop-file.yielded _ _ _ _ gives.0 c.loop-file.yielded_by c.in-None.is c.next.ensures.steps).0 in
    record {
      sound = c.loop-file.invariant.sound;
      complete = all_there c.args.self.now.files c.loop-file.orders
          (subst (All (λ (e : ℕ × FileHistory). keeps_order e.1 ≡ true → get nat_cmp c.loop-file.orders e.0 ≢ None)) whole
          (All-map (λ (e : ℕ × FileHistory). keeps_order e.1 ≡ true → get nat_cmp c.loop-file.orders e.0 ≢ None) deref_pair c.loop-file.yielded
          c.loop-file.invariant.complete));
    }
