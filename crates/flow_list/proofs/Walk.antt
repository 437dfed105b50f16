-- A column is what a walk over its items finds that keeps the best place so far.
use Rattle.std.proofs.Common.{◌≡◌, ℕ, ◌+◌, Bool, true, false, cond, List, [], ◌∷◌, ◌++◌, Option, Some, None, refl, ap}
use Rattle.std.proofs.Common.{append_assoc}
use Rattle.std.specs.Prelude.{nat_lt, nat_le, fold}
use Rattle.flow_list.specs.Column.{place_in, better_place, Filled, Inner, Step, Place, cut, longer, rank, seams_between}
use Rattle.flow_list.specs.Column.{seams_before, fill_in_room, room, inside, alone_place, best, choose, stopped, unstopped}
use Rattle.flow_list.specs.Column.{column_up_to, column_over, last_place, no_place}

-- the place after an item, where the column may end if the seam there is forced or the end
abbrev pub behind : Step → Place
behind s = record { level = 0; end = (s.item + 1) ∷ []; extent = s.need; overflow = false }

abbrev pub seam_place : ℕ → Step → Place
seam_place need s = record { level = rank s.level; end = s.item ∷ []; extent = need; overflow = false }

-- the best place so far, with the seam before item s among them where an item stands before that
abbrev pub consider : Option Place → Option Place → Step → Option Place
consider b None s = b
consider b (Some p) s = Some (better_place b (seam_place p.extent s))

abbrev pub choose_with : Option Place → List Place → Place → Place
choose_with None ps other = choose ps other
choose_with (Some b) ps other = best b ps

abbrev pub stop_place : (ℕ → Bool) → ℕ → Option Place → Step → Option Filled → Place
stop_place avoids h b s filled = choose_with b (inside (avoids s.item) s h filled) (alone_place (avoids s.item) s h filled)

abbrev pub place_or : Option Place → Place
place_or None = no_place
place_or (Some p) = p

-- the walk from the next item on, with the best place so far and the place after the last item
abbrev pub walk : Inner → (ℕ → Bool) → ℕ → Option Place → Option Place → List Step → Place
walk inner avoids h b last [] = place_or last
walk inner avoids h b last (s ∷ ss) =
    cond (nat_lt h s.need) (stop_place avoids h (consider b last s) s (fill_in_room inner s.row (room s h)))
    (walk inner avoids h (consider b last s) (Some (behind s)) ss)

best_opt : List Place → Option Place
best_opt [] = None
best_opt (p ∷ ps) = Some (best p ps)

last_opt : List Step → Option Place
last_opt [] = None
last_opt (s ∷ ss) = Some (last_place (behind s) ss)

fold-append : {A B : Type 0} (f : B → A → B) (b : B) (xs ys : List A) → fold f b (xs ++ ys) ≡ fold f (fold f b xs) ys
fold-append f b [] ys = refl
fold-append f b (x ∷ xs) ys = fold-append f (f b x) xs ys

append-nil : {A : Type 0} (xs : List A) → xs ++ [] ≡ xs
append-nil [] = refl
append-nil (x ∷ xs) = ap (λ ys. x ∷ ys) (append-nil xs)

choose-with : (ps qs : List Place) (other : Place) → choose (ps ++ qs) other ≡ choose_with (best_opt ps) qs other
unfolding best_opt
choose-with [] qs other = refl
choose-with (p ∷ ps) qs other = fold-append (λ (b : Place) (x : Place). cond (nat_le x.level b.level) x b) p ps qs

seams_before-snoc : (need : ℕ) (p : Place) (xs : List Step) (s : Step) → need ≡ p.extent
    → seams_before need (xs ++ s ∷ []) ≡ seams_before need xs ++ seam_place (last_place p xs).extent s ∷ []
seams_before-snoc need p [] s e = rw e refl
seams_before-snoc need p (x ∷ xs) s e = ap (λ ps. seam_place need x ∷ ps) (seams_before-snoc x.need (behind x) xs s refl)

snoc_place : Option Place → Step → List Place
snoc_place None s = []
snoc_place (Some p) s = seam_place p.extent s ∷ []

seams_between-snoc : (pre : List Step) (s : Step)
    → seams_between (pre ++ s ∷ []) ≡ seams_between pre ++ snoc_place (last_opt pre) s
unfolding last_opt snoc_place
seams_between-snoc [] s = refl
seams_between-snoc (x ∷ xs) s = seams_before-snoc x.need (behind x) xs s refl

best_opt-snoc : (ps : List Place) (l : Option Place) (s : Step) → best_opt (ps ++ snoc_place l s) ≡ consider (best_opt ps) l s
unfolding best_opt snoc_place
best_opt-snoc ps None s = rw append-nil refl
best_opt-snoc [] (Some p) s = refl
best_opt-snoc (q ∷ qs) (Some p) s =
    ap Some (fold-append (λ (b : Place) (x : Place). cond (nat_le x.level b.level) x b) q qs (seam_place p.extent s ∷ []))

last_opt-snoc : (pre : List Step) (s : Step) → last_opt (pre ++ s ∷ []) ≡ Some (behind s)
unfolding last_opt
last_opt-snoc [] s = refl
last_opt-snoc (x ∷ xs) s = ap Some (go (behind x) xs)
  where
    go : (p : Place) (xs : List Step) → last_place p (xs ++ s ∷ []) ≡ behind s
    go p [] = refl
    go p (x ∷ xs) = go (behind x) xs

stop-walk : (avoids : ℕ → Bool) (h : ℕ) (pre : List Step) (s : Step) (filled : Option Filled)
    → place_in (stopped (avoids s.item) h pre s filled)
    ≡ stop_place avoids h (consider (best_opt (seams_between pre)) (last_opt pre) s) s filled
stop-walk avoids h pre s filled = rw (seams_between-snoc, choose-with, best_opt-snoc) refl

end-walk : (pre : List Step) → place_in (unstopped pre) ≡ place_or (last_opt pre)
unfolding last_opt
end-walk [] = refl
end-walk (s ∷ ss) = refl

column-walk : (inner : Inner) (avoids : ℕ → Bool) (h : ℕ) (pre ss : List Step)
    → place_in (column_up_to inner avoids h (pre ++ (cut h ss).before) (cut h ss).stop)
    ≡ walk inner avoids h (best_opt (seams_between pre)) (last_opt pre) ss
column-walk inner avoids h pre [] = rw append-nil (end-walk pre)
column-walk inner avoids h pre (s ∷ ss) = go (nat_lt h s.need) (column-walk inner avoids h (pre ++ s ∷ []) ss)
  where
    go : (b : Bool) → place_in (column_up_to inner avoids h ((pre ++ s ∷ []) ++ (cut h ss).before) (cut h ss).stop)
        ≡ walk inner avoids h (best_opt (seams_between (pre ++ s ∷ []))) (last_opt (pre ++ s ∷ [])) ss →
        place_in (column_up_to inner avoids h
        (pre ++ (cond b (record { before = []; stop = Some s }) (longer s (cut h ss))).before)
        (cond b (record { before = []; stop = Some s }) (longer s (cut h ss))).stop)
        ≡ cond b (stop_place avoids h (consider (best_opt (seams_between pre)) (last_opt pre) s) s
        (fill_in_room inner s.row (room s h)))
        (walk inner avoids h (consider (best_opt (seams_between pre)) (last_opt pre) s) (Some (behind s)) ss)
    go true ih = rw append-nil (stop-walk avoids h pre s (fill_in_room inner s.row (room s h)))
    go false ih = rw (seams_between-snoc, best_opt-snoc, last_opt-snoc, append_assoc) at ih

-- a column ends where the walk over its items does
pub column_over-walk : (inner : Inner) (avoids : ℕ → Bool) (h : ℕ) (ss : List Step)
    → place_in (column_over inner avoids h ss) ≡ walk inner avoids h None None ss
unfolding best_opt last_opt
column_over-walk inner avoids h ss = column-walk inner avoids h [] ss
