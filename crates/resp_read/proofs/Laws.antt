-- What holds of each reader of a form, and how it passes from the parts to the whole.
use Rattle.std.proofs.Common.{◌≡◌, ℕ, List, [], ◌∷◌, ◌++◌, Bool, true, false, refl, sym, ap, ◌∙◌, append_assoc}
use Rattle.std.specs.Prelude.{if◌then◌else◌}
use Rattle.resp_read.specs.Parser.{read, short, bad, Found, found_and_then, found_map}

module _ {A : Type 0} where
  -- with bytes that follow: what was read stays read, what was bad stays bad; some bytes make a short text whole; and what is left is the end of the text
  pub record LawfulAt (f : List ℕ → Found A) (bs : List ℕ) : Type 0 where
    pub grows : (m : List ℕ) (a : A) (r : List ℕ) → f bs ≡ read a r → f (bs ++ m) ≡ read a (r ++ m)
    pub stays : (m : List ℕ) → f bs ≡ bad → f (bs ++ m) ≡ bad
    pub completes : f bs ≡ short → (m : List ℕ) × (a : A) × (f (bs ++ m) ≡ read a [])
    pub ends : (a : A) (r : List ℕ) → f bs ≡ read a r → (p : List ℕ) × (bs ≡ p ++ r)

  abbrev pub Lawful : (List ℕ → Found A) → Type 0
  Lawful f = (bs : List ℕ) → LawfulAt f bs

  -- some text is read whole
  abbrev pub Possible : (List ℕ → Found A) → Type 0
  Possible f = (m : List ℕ) × (a : A) × (f m ≡ read a [])

  pub lawful_where_read : (f : List ℕ → Found A) (bs : List ℕ) (v : A) (rest p : List ℕ) → f bs ≡ read v rest → ((m : List ℕ) → f (bs ++ m) ≡ read v (rest ++ m)) → bs ≡ p ++ rest → LawfulAt f bs
  lawful_where_read f bs v rest p now more is = record {
    grows = λ m a r e. let w : v ≡ a = cc in let s : rest ≡ r = cc in more m ∙ (λ i. read (w i) (s i ++ m));
    stays = λ m e. cc;
    completes = λ e. cc;
    ends = λ a r e. let s : rest ≡ r = cc in (p, is ∙ ap (λ x. p ++ x) s);
  }

  pub lawful_where_short : (f : List ℕ → Found A) (bs : List ℕ) → f bs ≡ short → (m : List ℕ) (a : A) → f (bs ++ m) ≡ read a [] → LawfulAt f bs
  lawful_where_short f bs now m a later = record { grows = λ n b r e. cc; stays = λ n e. cc; completes = λ e. (m, a, later); ends = λ b r e. cc }

  pub lawful_where_bad : (f : List ℕ → Found A) (bs : List ℕ) → f bs ≡ bad → ((m : List ℕ) → f (bs ++ m) ≡ bad) → LawfulAt f bs
  lawful_where_bad f bs now more = record { grows = λ m a r e. cc; stays = λ m e. more m; completes = λ e. cc; ends = λ a r e. cc }

  pub lawful_bad : Lawful (λ bs. bad)
  lawful_bad bs = lawful_where_bad (λ x. bad) bs refl (λ m. refl)

  pub lawful_read : (a : A) → Lawful (λ bs. read a bs)
  lawful_read a bs = lawful_where_read (λ x. read a x) bs a bs [] refl (λ m. refl) refl

  pub lawful_if : (c : Bool) (f g : List ℕ → Found A) (bs : List ℕ) → LawfulAt f bs → LawfulAt g bs → LawfulAt (λ x. if c then f x else g x) bs
  lawful_if true f g bs h k = h
  lawful_if false f g bs h k = k

  -- one byte more before it
  pub lawful_cons : (f g : List ℕ → Found A) (b : ℕ) (bs : List ℕ) → ((x : List ℕ) → f (b ∷ x) ≡ g x) → LawfulAt g bs → LawfulAt f (b ∷ bs)
  lawful_cons f g b bs same h = record {
    grows = λ m a r e. same (bs ++ m) ∙ h.grows m a r (sym (same bs) ∙ e);
    stays = λ m e. same (bs ++ m) ∙ h.stays m (sym (same bs) ∙ e);
    completes = λ e. let c = h.completes (sym (same bs) ∙ e) in (c.0, c.1, same (bs ++ c.0) ∙ c.2);
    ends = λ a r e. let p = h.ends a r (sym (same bs) ∙ e) in (b ∷ p.0, ap (λ x. b ∷ x) p.1);
  }

  -- an empty text is short where some text is read
  pub lawful_nil : (f : List ℕ → Found A) → f [] ≡ short → Possible f → LawfulAt f []
  lawful_nil f now h = lawful_where_short f [] now h.0 h.1 h.2

module _ {A B : Type 0} (f : List ℕ → Found A) (g : A → List ℕ → Found B) where
  abbrev pub both : List ℕ → Found B
  both bs = found_and_then g (f bs)

  then_by : (bs : List ℕ) (x : Found A) → f bs ≡ x → Lawful f → ((a : A) → Lawful (g a)) → ((a : A) → Possible (g a)) → LawfulAt both bs
  then_by bs (read a rest) is h k full =
      let now : both bs ≡ g a rest = ap (found_and_then g) is in
      let more : (m : List ℕ) → both (bs ++ m) ≡ g a (rest ++ m) = λ m. ap (found_and_then g) ((h bs).grows m a rest is) in
      let front = (h bs).ends a rest is in
      record {
        grows = λ m b r e. more m ∙ (k a rest).grows m b r (sym now ∙ e);
        stays = λ m e. more m ∙ (k a rest).stays m (sym now ∙ e);
        completes = λ e. let c = (k a rest).completes (sym now ∙ e) in (c.0, c.1, more c.0 ∙ c.2);
        ends = λ b r e. let p = (k a rest).ends b r (sym now ∙ e) in (front.0 ++ p.0, front.1 ∙ ap (λ x. front.0 ++ x) p.1 ∙ sym (append_assoc front.0 p.0 r));
      }
  then_by bs short is h k full =
      let c = (h bs).completes is in
      let d = full c.1 in
      let whole : f ((bs ++ c.0) ++ d.0) ≡ read c.1 d.0 = (h (bs ++ c.0)).grows d.0 c.1 [] c.2 in
      lawful_where_short both bs (ap (found_and_then g) is) (c.0 ++ d.0) d.1 (ap both (sym (append_assoc bs c.0 d.0)) ∙ ap (found_and_then g) whole ∙ d.2)
  then_by bs bad is h k full = lawful_where_bad both bs (ap (found_and_then g) is) (λ m. ap (found_and_then g) ((h bs).stays m is))

  -- f, and then g
  pub lawful_then : Lawful f → ((a : A) → Lawful (g a)) → ((a : A) → Possible (g a)) → Lawful both
  lawful_then h k full bs = then_by bs (f bs) refl h k full

  pub possible_then : Lawful f → Possible f → ((a : A) → Possible (g a)) → Possible both
  possible_then h p k =
      let q = k p.1 in
      (p.0 ++ q.0, q.1, ap (found_and_then g) ((h p.0).grows q.0 p.1 [] p.2) ∙ q.2)

module _ {A B : Type 0} (h : A → B) (f : List ℕ → Found A) where
  pub lawful_map : Lawful f → Lawful (λ bs. found_map h (f bs))
  lawful_map lawful = lawful_then f (λ a rest. read (h a) rest) lawful (λ a. lawful_read (h a)) (λ a. ([], h a, refl))

  pub possible_map : Possible f → Possible (λ bs. found_map h (f bs))
  possible_map p = (p.0, h p.1, ap (found_map h) p.2)
