-- Which response a site gives to a request of HTTP, and what that does to the site.
use Rattle.std.specs.Prelude.{◌≡◌, ◌⊎◌, ℕ, List, [], Option, option_map, Result, Ok, Err, OnOk, IsErr}
use Rattle.std.specs.String.{string_bytes}
use Rattle.std.specs.declared.alloc.AllocError.{AllocError}
use Rattle.http.specs.declared.request.Request.{Request}
use Rattle.http.specs.Request.{head_of, body_of}
use Rattle.http_server.specs.declared.response.Response.{Response}
use Rattle.http_server.specs.Response.{IsResponse}
use Rattle.site_replies.specs.Reply.{ReplyData}
use Rattle.http_messages.specs.Request.{WantedData, page, commands, refused, wanted_of, condition_in}
use Rattle.http_messages.specs.Response.{ResponseData, Shows, reply_response, commands_response, fault_response}
use Rattle.http_pages.specs.declared.pages.Pages.{Ghosts}
use Rattle.http_pages.specs.declared.service.PageService.{PageService}

-- the response, or the one after a failed allocation
abbrev pub ShowsOrNone : ResponseData → Response → Type 0
ShowsOrNone said r = Shows said r ⊎ IsResponse 503 [] [] r

module _ {P : Type 0} (g : Ghosts P) where
  -- a page is shown, or lines are carried out, or nothing is done
  abbrev pub RespondsTo : WantedData → Option (List ℕ) → P → Response → P → Type 0
  RespondsTo (page path) condition old r new =
      (reply : ReplyData) × g.shows old path reply new × ShowsOrNone (reply_response (g.tag_of old) condition reply) r
  RespondsTo (commands lines) condition old r new =
      ((replies : List ℕ) × g.carries_out old lines replies new × ShowsOrNone (commands_response replies) r)
      ⊎ (g.breaks_off old lines new × IsResponse 503 [] [] r)
  RespondsTo (refused fault) condition old r new = (new ≡ old) × ShowsOrNone (fault_response fault) r

  -- from the first state this is the response to the request, and leaves the second state
  pub record Responds (old : PageService P) (request : Request (List ℕ)) (r : Response) (new : PageService P) : Type 0 where
    pub responds : RespondsTo (wanted_of (option_map string_bytes old.token) (head_of request) (body_of request))
        (condition_in (head_of request).headers) old.pages r new.pages
    pub token : new.token ≡ old.token
    -- it makes no commit fail
    pub sound : g.is_sound old.pages → g.is_sound new.pages

  -- ---- definitions for private clauses

  -- the lines were carried out, and the response has their replies; or memory ran out
  abbrev pub CarriesOut : P → List ℕ → Response → P → Result (Unit {0}) AllocError → Type 0
  CarriesOut old lines r new result =
      ((replies : List ℕ) × g.carries_out old lines replies new × OnOk result (Shows (commands_response replies) r))
      ⊎ (g.breaks_off old lines new × IsErr result)

  -- the same for a request; on `Err` it holds of each response that is the one after a failed allocation
  abbrev pub Fills : PageService P → Request (List ℕ) → Response → PageService P → Result (Unit {0}) AllocError → Type 0
  Fills old request r new (Ok x) = Responds old request r new
  Fills old request r new (Err e) = (said : Response) → IsResponse 503 [] [] said → Responds old request said new
