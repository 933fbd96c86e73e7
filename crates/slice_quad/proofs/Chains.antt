-- Four calls one after another, each for a coordinate.
use Rattle.diagram_ops.specs.Diagrams.{StoreAndCache, IsConsistent}
use Rattle.slice_vec.specs.Growing.{Grows}
use Rattle.slice_quad.specs.declared.coord.Coord.TheVariants.{A, B, C, D}
use Rattle.slice_quad.specs.declared.four.Four.{Four}
use Rattle.slice_quad.specs.Fourfold.{Takes, Functions, Gives, Among, IsRepeatable, AreGiven}
use Rattle.slice_quad.proofs.Serving.{Serves, serves_list, grows_by}

module _ (takes : Takes) (fs : Functions) (gives : Gives) (h : IsRepeatable takes fs gives) (u : StoreAndCache) (s : IsConsistent u) (t : takes u.store) where
  abbrev Goes : StoreAndCache → StoreAndCache → Type 0
  Goes v w = Grows v (Among fs v.store) w

  pub one_more : (v : StoreAndCache) → Goes u v → Serves u v (Among fs u.store) (Among fs v.store)
  one_more v k = serves_list u v (Among fs u.store) (fs v.store) (fs u.store) k (h.same u v s k t) (λ p x. x)

  pub two_more : (v w : StoreAndCache) → Goes u v → Goes v w → Serves u w (Among fs u.store) (Among fs w.store)
  two_more v w k g = one_more w (grows_by (one_more v k) g)

  pub three_more : (v w x : StoreAndCache) → Goes u v → Goes v w → Goes w x → Serves u x (Among fs u.store) (Among fs x.store)
  three_more v w x k g i = two_more w x (grows_by (one_more v k) g) i

  pub all_four : (v w x y : StoreAndCache) (f : Four) → Goes u v → Goes v w → Goes w x → Goes x y → gives u.store A v.store f.a → gives v.store B w.store f.b → gives w.store C x.store f.c → gives x.store D y.store f.d → AreGiven gives u.store y.store f
  all_four v w x y f g1 g2 g3 g4 a b c e A = h.later u x y A f.a g3.sound g4 (h.later u w x A f.a g2.sound g3 (h.later u v w A f.a g1.sound g2 a))
  all_four v w x y f g1 g2 g3 g4 a b c e B = h.later u x y B f.b g3.sound g4 (h.later u w x B f.b g2.sound g3 (h.earlier u v w B f.b s g1 t b))
  all_four v w x y f g1 g2 g3 g4 a b c e C = h.later u x y C f.c g3.sound g4 (h.earlier u w x C f.c s (two_more v w g1 g2).grows t c)
  all_four v w x y f g1 g2 g3 g4 a b c e D = h.earlier u x y D f.d s (three_more v w x g1 g2 g3).grows t e
