use Rattle.std.proofs.Common.{◌≡◌, ◌++◌, ℕ, List, codes, ap, sym, ◌∙◌}
use Rattle.std.specs.Prelude.{Option}
use Rattle.std.proofs.lemmas.Result.{on_ok_weaker}
use Rattle.cow_reports.specs.Items.{first_member}
use Rattle.cow_reports.specs.Json.{member_text}
use Rattle.cow_reports.proofs.Lines.{two_more, three_more}
use Rattle.image_reports.specs.Ranging.{place_members}
use Rattle.image_reports.proofs.ranging.push_object.Goals as goal

-- an object in four parts
four_more : (t0 t1 t2 t3 t4 a b c d : List ℕ) → t1 ≡ t0 ++ a → t2 ≡ t1 ++ b → t3 ≡ t2 ++ c → t4 ≡ t3 ++ d → t4 ≡ t0 ++ (a ++ (b ++ (c ++ d)))
four_more t0 t1 t2 t3 t4 a b c d first second third fourth = two_more t0 t1 t4 a (b ++ (c ++ d)) first (three_more t1 t2 t3 t4 b c d second third fourth)

-- the place of a range, by where it stands
placed : (origin cow front : List ℕ) (start : ℕ) (copy place : Option ℕ) → copy ≡ place → front ++ place_members origin cow start place ≡ front ++ place_members origin cow start copy
placed origin cow front start copy place is = ap (λ (p : Option ℕ). front ++ place_members origin cow start p) (sym is)

pub returns-in-None : goal.returns-in-None
returns-in-None c =
    on_ok_weaker c.push_names.result
    (λ h. four_more _ _ _ _ _ (first_member (codes "start") c.args.range.start) (member_text (codes "length") c.args.range.count) (codes ",\"present\":true,\"data\":true") (place_members c.args.origin.now c.args.cow.now c.args.range.start c.args.range.copy) c.in_ok-push_first.ensures c.in_ok-push_member.ensures c.in_ok-extend_from_slice.ensures.items
    (h ∙ placed c.args.origin.now c.args.cow.now c.extend_from_slice.new.self.items c.args.range.start c.args.range.copy _ c.in-None.is))
    c.push_names.ensures

pub returns-in-Some : goal.returns-in-Some
returns-in-Some c =
    on_ok_weaker c.push_names-in-Some.result
    (λ h. four_more _ _ _ _ _ (first_member (codes "start") c.args.range.start) (member_text (codes "length") c.args.range.count) (codes ",\"present\":true,\"data\":true") (place_members c.args.origin.now c.args.cow.now c.args.range.start c.args.range.copy) c.in_ok-push_first.ensures c.in_ok-push_member.ensures c.in_ok-extend_from_slice.ensures.items
    (h ∙ placed c.args.origin.now c.args.cow.now c.extend_from_slice.new.self.items c.args.range.start c.args.range.copy _ c.in-Some.is))
    c.push_names-in-Some.ensures
